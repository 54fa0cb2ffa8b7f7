pub mod Relays
pub mod Lending
