pub mod Reading
pub mod Masks
pub mod Within
pub mod Kinds
