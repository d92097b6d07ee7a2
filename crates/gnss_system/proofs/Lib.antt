pub mod CheckedLaws
pub mod SystemLaws
