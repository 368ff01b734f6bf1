pub mod Beacon
