pub mod Moves
pub mod Book
pub mod Transcript
pub mod Strip
pub mod Lawful
pub mod Theorems
