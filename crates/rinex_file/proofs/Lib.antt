pub mod Names
pub mod ReadingLaws
pub mod ReaderLaws
mod Digits
mod Fields
mod Rows
mod Writing
mod HeaderRows
mod Reading
mod Judged
mod FewRows
mod PlainTexts
mod FileLines
mod OneReading
mod GatheredFile
