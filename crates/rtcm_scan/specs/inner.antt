-- Definitions that no promise to a user reaches: the vocabulary of private contracts and of proofs.
pub mod Results
pub mod Candidate
pub mod Pending
pub mod View
pub mod Passing
