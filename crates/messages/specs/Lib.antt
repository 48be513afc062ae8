-- Interface: `at`, `only`, `listed`, `MessageCases`, `AllLaid`, `are_listed`, `no_messages`, `all_periods`,
-- `remaining`, `is_message`.
pub mod Messages
pub mod Meaning
pub mod Quick
pub mod Cases
