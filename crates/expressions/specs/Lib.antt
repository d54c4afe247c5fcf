pub mod Frames
pub mod Lays
pub mod Reads
