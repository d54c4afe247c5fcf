pub mod Numbers
pub mod Refusals
pub mod Moves
pub mod Follows
pub mod Kept
