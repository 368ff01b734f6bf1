pub mod Stream
pub mod pump
pub mod follow
pub mod show
pub mod exercise
