pub mod Front
pub mod Tail
pub mod Text
pub mod Heard
pub mod Link
