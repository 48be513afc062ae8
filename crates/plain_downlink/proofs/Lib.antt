pub mod Seen
pub mod Ends
pub mod Rows
