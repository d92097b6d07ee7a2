-- The line of a satellite: its parts, written and read.
pub mod Sizes
pub mod Cells
pub mod Columns
pub mod Trimmed
pub mod Cut
pub mod Written
