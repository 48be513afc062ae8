pub mod Marked
pub mod Rows
pub mod Laws
pub mod Cases
pub mod Closed
pub mod Stands
