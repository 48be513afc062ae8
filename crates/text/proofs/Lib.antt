pub mod Digitwise
pub mod Hexwise
pub mod Nan
