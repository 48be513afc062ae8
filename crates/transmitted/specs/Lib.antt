-- Interface: `element_answer`, `outgoing_of`, `call_refusal`, `element_refusal`.
pub mod GoesOut
pub mod Refusals
pub mod Element
pub mod Quick
pub mod Scaffold
