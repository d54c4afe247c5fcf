pub mod Computed
pub mod Books
