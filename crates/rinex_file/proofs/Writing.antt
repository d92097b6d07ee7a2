-- Lines and files as they are written.
pub mod Sent
pub mod Skipped
pub mod Satellites
pub mod Stored
pub mod Text
pub mod Grown
