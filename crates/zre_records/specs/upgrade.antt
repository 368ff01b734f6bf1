pub mod Upgrade
pub mod Upgrader
pub mod Written
