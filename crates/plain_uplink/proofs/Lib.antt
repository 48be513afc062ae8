pub mod Clear
pub mod DataRows
