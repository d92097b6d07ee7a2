-- Definitions that no promise to a user reaches: the vocabulary of private contracts and of proofs.
pub mod Lines
pub mod FirstTows
pub mod SaidWeeks
pub mod Counting
