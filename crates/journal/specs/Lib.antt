pub mod Log
pub mod Area
pub mod Worked
