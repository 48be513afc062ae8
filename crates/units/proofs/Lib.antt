pub mod Units
pub mod Entries
pub mod Grid
pub mod Lanes
pub mod Timetables
pub mod Running
pub mod Walking
pub mod Finding
