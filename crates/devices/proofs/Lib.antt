pub mod Names
pub mod DeviceLemmas
pub mod BufferLemmas
pub mod PrintingLaws
pub mod WritingLaws
