pub mod Stations
pub mod Serving
