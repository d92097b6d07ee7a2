pub mod Names
mod CheckLemmas
mod GapLemmas
mod CompleteLemmas
mod MissingLemmas
mod TallyLemmas
mod SumLemmas
mod QualityTexts
mod PresenceLemmas
mod TableLemmas
mod TableSteps
mod RatingLemmas
mod ContentsLemmas
mod PeriodLemmas
mod EndLemmas
