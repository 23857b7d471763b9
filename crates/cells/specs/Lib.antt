pub mod Due
pub mod Index
pub mod Alike
pub mod Block
