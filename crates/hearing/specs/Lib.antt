-- What the contract of this crate cites beside the rules.
pub mod Frames
