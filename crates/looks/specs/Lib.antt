-- What the calls look at behind `&Node`.
pub mod Order
pub mod Probes
pub mod Bits
