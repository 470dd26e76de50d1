-- Lemmas on the pieces of an input, what is put in two steps, and examples.
pub mod Collected
pub mod Cuts
pub mod Examples
pub mod Left
