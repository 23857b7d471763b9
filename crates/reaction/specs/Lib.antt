pub mod Plan
pub mod Facts
pub mod Rounds
pub mod Causes
pub mod Reasons
