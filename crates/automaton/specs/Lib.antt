pub mod Sets
pub mod Pattern
pub mod Automaton
pub mod Numbering
pub mod Theorems
pub mod Reached
pub mod Order
