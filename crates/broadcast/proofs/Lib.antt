pub mod Channels
pub mod Frames
pub mod Cases
