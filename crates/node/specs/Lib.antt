-- What the calls promise, and what their tests find.
pub mod Promises
pub mod Found
pub mod Numbered
