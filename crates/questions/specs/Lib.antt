-- Interface: none. All of it is for the code alone.
pub mod Kind
pub mod Line
pub mod Values
