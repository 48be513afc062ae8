pub mod Ordering
pub mod Nesting
pub mod GapPeriods
pub mod Spreading
pub mod Cycles
