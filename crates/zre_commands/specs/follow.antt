pub mod Follow
pub mod Follower
pub mod Messages
pub mod Runs
pub mod Taken
