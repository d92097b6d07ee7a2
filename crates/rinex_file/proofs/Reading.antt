-- A file that is read line by line: its bytes, its dates, and the steps from one line to the next.
pub mod Lines
pub mod Dates
pub mod Epochs
pub mod Events
pub mod Header
pub mod Summary
pub mod Accepted
