pub mod Taken
pub mod Accepted
pub mod Showing
pub mod Judging
pub mod Repeating
pub mod Cases
