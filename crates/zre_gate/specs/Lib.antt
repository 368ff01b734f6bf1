pub mod Clients
pub mod Gate
pub mod Gathering
pub mod ClientLists
pub mod Interleaving
pub mod Stages
pub mod Tables
