-- Facts that several proofs cite.
pub mod Fits
pub mod Puts
pub mod RuleSets
