pub mod Listing
pub mod Meaning
pub mod Closing
pub mod Spaced
