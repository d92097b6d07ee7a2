pub mod Names
mod StreamLemmas
mod ListingLemmas
mod ShowLemmas
mod ReadBackLemmas
mod SetLemmas
mod CountedLemmas
mod TowLemmas
mod SaidLemmas
mod PrintedWeekLemmas
mod FirstLemmas
mod FirstMsmLemmas
mod CountingLemmas
mod SignalLemmas
mod ValuedLemmas
mod PlannedLemmas
mod SkipLemmas
mod WeekLemmas
mod SentWeekLemmas
mod SaidTimeLemmas
mod OptionLemmas
mod LengthLemmas
mod StreamChannelLemmas
pub mod CarrierLemmas
pub mod LeapLemmas
pub mod RangeLemmas
pub mod FirstChannelLemmas
