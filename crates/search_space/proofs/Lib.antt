pub mod Starting
pub mod Labels
pub mod Listing
pub mod Order
pub mod Accepting
pub mod Promising
pub mod Cases
