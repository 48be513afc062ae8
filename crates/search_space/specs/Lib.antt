-- Interface: `room`, `blank`, `SearchCases`, `SearchPromises`, `search_of`.
pub mod Starts
pub mod Refusals
pub mod Candidates
pub mod Questions
pub mod Promised
pub mod Cases
pub mod Quick
