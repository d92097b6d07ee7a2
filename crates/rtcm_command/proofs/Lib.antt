pub mod Names
mod OptionLemmas
mod ConvertLemmas
mod CommandLemmas
pub mod PrintedPlanLemmas
pub mod PrintedWordsLemmas
mod NearOptionLemmas
