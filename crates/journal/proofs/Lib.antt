pub mod Fronts
pub mod Mapping
