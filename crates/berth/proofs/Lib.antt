-- Facts that several proofs, here or in `looks`, cite.
pub mod Chains
pub mod Guards
