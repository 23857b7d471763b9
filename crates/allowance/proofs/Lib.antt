pub mod TickLaws
pub mod AloneLaws
pub mod Share
pub mod Own
pub mod Calls
pub mod EachStation
pub mod Theorem
