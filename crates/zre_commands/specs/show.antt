pub mod Lines
pub mod Lister
pub mod Show
