pub mod Frames
pub mod Copying
pub mod Growing
pub mod Atoms
pub mod Whole
