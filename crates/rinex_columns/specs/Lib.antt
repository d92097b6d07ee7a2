pub mod Limits
pub mod Numbers
pub mod HeaderLine
pub mod Read
