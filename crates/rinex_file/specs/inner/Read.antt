-- The reading of a file, line by line.
pub mod Row
pub mod HeaderSteps
pub mod Progress
pub mod Sound
pub mod Steps
pub mod EpochSteps
