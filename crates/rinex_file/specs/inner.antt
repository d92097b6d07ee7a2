-- Definitions that no promise to a user reaches: the vocabulary of private contracts and of proofs.
pub mod Words
pub mod Rows
pub mod Header
pub mod Heads
pub mod TextsOf
pub mod Stored
pub mod ParserState
pub mod Read
