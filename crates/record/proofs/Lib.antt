pub mod Tables
pub mod Digits
pub mod Packing
pub mod Decoding
pub mod Trips
