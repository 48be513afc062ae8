-- Interface: `Meeting`, `blank`, `none`, `window_tones`, `is_listed`, `overlaps`, `open_to`, `refusal_on`.
pub mod Windows
pub mod Meaning
pub mod Quick
pub mod Scaffold
