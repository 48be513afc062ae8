-- Interface: `power_below`, `bit_of`, `rank`, `count`, `next`, `select`, `among_first`, `in_range`, `is_one_of`.
pub mod Counting
pub mod Bits
pub mod Listed
pub mod Scaffold
