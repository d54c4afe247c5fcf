pub mod Lays
pub mod Links
pub mod Sets
