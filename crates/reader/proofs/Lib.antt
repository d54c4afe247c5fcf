pub mod Fronts
pub mod Found
pub mod Listed
pub mod Same
pub mod Denied
pub mod Reach
