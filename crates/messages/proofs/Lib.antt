pub mod Listing
pub mod Computed
pub mod Queue
pub mod Copies
pub mod Timing
pub mod Repeating
pub mod Meaning
pub mod Cases
