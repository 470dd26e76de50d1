-- What the program prints.
pub mod Ranges
pub mod Asked
pub mod Line
pub mod Refusals
pub mod Ladder
