pub mod Putting
pub mod Reading
pub mod Turning
