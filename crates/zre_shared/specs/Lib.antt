pub mod Gathering
pub mod Kept
pub mod Lines
pub mod Replicas
pub mod Tables
pub mod Welcome
pub mod Writes
