-- Definitions that no promise to a user reaches: the vocabulary of private contracts and of proofs.
pub mod Held
pub mod Marks
pub mod Step
pub mod GathererSteps
pub mod Calls
pub mod SignalCounts
