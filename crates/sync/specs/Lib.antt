-- Interface: `npbch`, `npss`, `nsss`, `sib1_copies`, `sib1_first`, `sib1`.
pub mod Sync
pub mod Quick
