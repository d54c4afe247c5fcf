pub mod Loop
pub mod Names
pub mod Lists
