-- Definitions that no promise to a user reaches: the vocabulary of private contracts and of proofs.
pub mod Missing
pub mod Reading
pub mod Tables
pub mod QualityLines
pub mod Rating
