pub mod Escapes
pub mod Runs
