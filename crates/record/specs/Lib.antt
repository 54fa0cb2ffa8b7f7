pub mod Codes
pub mod Entry
pub mod Checks
pub mod Layout
pub mod Halves
