-- What the proofs of this crate and its callers share.
pub mod Fits
pub mod Counted
pub mod RuleSets
