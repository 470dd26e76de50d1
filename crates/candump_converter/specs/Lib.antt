-- What the converter does.
pub mod Pieces
pub mod Turns
pub mod Files
pub mod Lines
pub mod Runs
