-- Laws in the order of the definitions, then what a sound table says.
pub mod Places
pub mod BlockTests
pub mod TableParts
pub mod LayoutFacts
