pub mod Turns
pub mod Sums
pub mod Parts
pub mod Commuting
pub mod SweepLaws
