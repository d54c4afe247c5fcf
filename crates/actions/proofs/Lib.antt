pub mod Added
pub mod Parts
pub mod Read
