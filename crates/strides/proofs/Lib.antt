pub mod Striding
pub mod Apart
