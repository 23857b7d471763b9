pub mod Numbers
pub mod Reading
pub mod Printing
pub mod Request
pub mod Promises
