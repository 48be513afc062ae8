-- Interface: `output_of`, `fill_refusal`.
pub mod Refusals
pub mod Fill
pub mod Quick
