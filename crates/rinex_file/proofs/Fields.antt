-- The columns of a value: as they are written and read.
pub mod Columns
pub mod Templates
pub mod Lanes
pub mod Values
