pub mod Simulate
pub mod Simulator
pub mod Writing
