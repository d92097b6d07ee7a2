pub mod Device
pub mod Devices
pub mod Buffering
pub mod Printing
