-- What the laws cite beside the rules.
pub mod Own
pub mod Histories
pub mod Cards
pub mod Gaps
pub mod Rounds
pub mod Sides
pub mod Line
pub mod Free
pub mod Changes
pub mod Parties
