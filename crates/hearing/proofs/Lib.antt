-- Facts that the checks of several functions cite.
pub mod Put
pub mod RuleSets
