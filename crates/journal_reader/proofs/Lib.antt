-- The law of the lines that are printed, and a run of the reader.
pub mod Lines
pub mod Read
pub mod Running
