pub mod Cells
pub mod Heads
