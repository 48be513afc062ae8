-- Interface: `first_subcarrier`, `used_subcarriers`, `burst_of`, `plan_of`, `forward_of`, `backward_of`.
pub mod Ncce
pub mod Refusals
pub mod Questions
pub mod Scaffold
