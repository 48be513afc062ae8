-- Interface: `plus_zero`, `written_of`, `answer_of`, `numbers_of`, `symbol_of`, `level_in_range`.
pub mod Symbol
pub mod Outgoing
pub mod Quick
pub mod Scaffold
