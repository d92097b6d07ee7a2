pub mod Digits
pub mod Metres
pub mod Lines
pub mod Lengths
pub mod Dates
pub mod ChannelTexts
pub mod LeapSeconds
pub mod inner
