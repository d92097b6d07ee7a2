pub mod Names
pub mod ClosingLemmas
pub mod LoadLemmas
pub mod EpochLemmas
pub mod LockLemmas
pub mod NotingLemmas
pub mod TakeLemmas
pub mod TimesLemmas
pub mod CellsLemmas
pub mod CountsLemmas
pub mod CountLaws
pub mod ClosedLemmas
pub mod OneStepLemmas
pub mod ClockLemmas
pub mod HeardLemmas
pub mod Rows
pub mod StartLaws
pub mod EntryLemmas
pub mod HistoryLemmas
pub mod ReturnedLemmas
pub mod KindLemmas
mod OrderLemmas
pub mod WholeSteps
mod ValueLemmas
pub mod ReachLemmas
mod SignalCountsLemmas
pub mod SignalNumbers
pub mod ViewLemmas
pub mod ThinLemmas
pub mod MarksLemmas
pub mod ThinnedLemmas
mod ChoiceLemmas
pub mod TwoSystemsLemmas
pub mod TimeLawLemmas
