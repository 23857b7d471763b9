pub mod Demand3
pub mod StationsDemand
pub mod NobodyOverstays
