pub mod Rules
pub mod Weights
pub mod Examples
pub mod Weighing
