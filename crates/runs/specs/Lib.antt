-- What the laws of the code's runs cite beside the laws' own words.
pub mod Chains
pub mod Lines
