-- Interface: `BroadcastCases`, `Channel`, `npbch_of`, `sib1_layout`, `sib1_of`, `sib1_frame`, `forward_of`,
-- `backward_of`.
pub mod Channels
pub mod Questions
pub mod Cases
pub mod Quick
