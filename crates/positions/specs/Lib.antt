pub mod Memory
pub mod Laid
