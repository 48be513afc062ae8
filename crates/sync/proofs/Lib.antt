pub mod Taken
pub mod Broadcast
