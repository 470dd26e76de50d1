-- What the journal's reader does.
pub mod Turns
pub mod Lines
pub mod Runs
