pub mod Commands
pub mod Events
pub mod Passes
pub mod Work
