-- How the structs of this crate are read as the records of the rules.
pub mod Reading
