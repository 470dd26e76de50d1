-- Facts that proofs of this crate cite, the laws that no byte put or held is lost, and examples.
pub mod Bytes
pub mod Collected
pub mod Ends
pub mod Examples
pub mod HandedOut
pub mod Places
pub mod Refill
pub mod RuleSets
pub mod WholeLines
