pub mod Chat
pub mod Outcome
pub mod Views
