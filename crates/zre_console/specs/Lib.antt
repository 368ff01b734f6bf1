pub mod lines
pub mod reader
pub mod printer
pub mod Keeping
pub mod Lived
pub mod Stages
pub mod Statuses
pub mod Tables
