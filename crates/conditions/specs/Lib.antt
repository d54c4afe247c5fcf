pub mod Spelt
pub mod Known
