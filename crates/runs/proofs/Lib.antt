-- The laws of the code's runs.
pub mod Runs
pub mod Every
pub mod PoorNodes
pub mod Lines
pub mod Plain
pub mod Examples
