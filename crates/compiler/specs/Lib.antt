pub mod CellsPut
pub mod Steps
pub mod Outcome
