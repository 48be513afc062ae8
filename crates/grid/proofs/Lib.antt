pub mod Numbering
pub mod Rules
