-- Interface: none. All of it is for the code alone.
pub mod Answers
pub mod Drawn
pub mod Line
pub mod Words
