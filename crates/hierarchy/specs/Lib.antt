pub mod Below
pub mod Unions
pub mod Masks
