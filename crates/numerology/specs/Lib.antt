-- Interface: `by_spacing`, `slots_in`, `first_after`, `group_of`, `group_ms`, `narrow_tones`.
pub mod Numerology
