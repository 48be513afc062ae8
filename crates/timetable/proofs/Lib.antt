pub mod Searching
