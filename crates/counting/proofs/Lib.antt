pub mod Facts
pub mod Rank
pub mod Range
pub mod Rows
pub mod Select
pub mod Period
pub mod Scan
pub mod Ones
pub mod Powers
pub mod Listed
mod Fours
