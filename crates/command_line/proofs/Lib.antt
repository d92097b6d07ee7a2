pub mod Names
mod NeededLemmas
mod CommandLineLemmas
mod AcceptedLemmas
