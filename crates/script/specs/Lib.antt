pub mod Numerals
pub mod Parts
pub mod Cutting
pub mod Commands
pub mod Reading
pub mod Answers
pub mod Script
