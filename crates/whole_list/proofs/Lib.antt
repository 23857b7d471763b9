pub mod Theorem
pub mod StationsTheorem
pub mod OverstayTheorem
