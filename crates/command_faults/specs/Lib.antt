pub mod ErrorLines
pub mod Status
pub mod inner
