-- Texts: those of the node's answers, of the cards and of the journal's entries.
pub mod Answers
pub mod Building
pub mod Cards
pub mod Entries
