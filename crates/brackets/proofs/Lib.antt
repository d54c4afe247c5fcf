pub mod Ahead
mod Meant
