pub mod Names
pub mod NumberLaws
