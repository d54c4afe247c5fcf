pub mod Worked
pub mod Books
