pub mod Forty
