-- Interface: none. All of it is for the code alone.
pub mod Closures
pub mod Quick
