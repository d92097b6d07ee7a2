pub mod CommandLine
pub mod Words
pub mod inner
