pub mod Bits
pub mod Prefix
pub mod Cursors
pub mod Crc
pub mod FrameOf
pub mod Window
pub mod inner
