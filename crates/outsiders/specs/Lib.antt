pub mod Chiefs
pub mod Shelves
