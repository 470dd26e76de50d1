-- Which berths are idle.
pub mod Idle
