-- Definitions that no promise to a user reaches: the vocabulary of private contracts and of proofs.
pub mod MessageBits
pub mod LastBits
pub mod Rows
pub mod Ranges
pub mod Forms
pub mod Refusals
pub mod Pairs
pub mod Views
pub mod Viewed
pub mod Presences
pub mod ValueCounts
pub mod Summaries
