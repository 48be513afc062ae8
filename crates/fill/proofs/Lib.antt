pub mod Laid
pub mod Writing
pub mod Answering
pub mod Rowwise
