-- Facts that several proofs, here, in `sides` or in `carumpek`, cite, and what the promises determine.
pub mod Outcomes
pub mod Refusing
pub mod Small
pub mod Shows
pub mod Numbered
pub mod Determined
pub mod PoorNodes
