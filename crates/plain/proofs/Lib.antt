pub mod Lists
pub mod Told
pub mod Right
pub mod Whole
pub mod Rules
