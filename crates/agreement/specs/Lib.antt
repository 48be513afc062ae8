-- Interface: none. All of it is for the code alone.
pub mod Telling
