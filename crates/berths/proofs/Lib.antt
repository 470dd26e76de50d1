-- Facts that the proofs of this crate's functions cite.
pub mod RuleSets
pub mod Filled
pub mod EachTick
pub mod Ticking
