-- Interface: `bytes_of`, `bad_bitmap`, `allowed`.
pub mod Bitmap
pub mod Quick
