pub mod Names
pub mod LineLaws
pub mod LengthLaws
pub mod ChannelLaws
