pub mod Sizes
pub mod Places
pub mod Areas
pub mod ByteLogs
pub mod Rows
pub mod VersionedFiles
pub mod Kept
