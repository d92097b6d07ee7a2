-- Definitions that no promise to a user reaches: the vocabulary of private contracts and of proofs.
pub mod Errors
pub mod Parsed
