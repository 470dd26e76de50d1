pub mod RuleSets
pub mod Turning
