pub mod Going
pub mod Calling
pub mod Answering
