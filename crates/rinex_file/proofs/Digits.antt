-- Numbers as digits: with blanks or zeros before them, and in lanes.
pub mod Padded
pub mod Lanes
