pub mod Orders
pub mod Typing
