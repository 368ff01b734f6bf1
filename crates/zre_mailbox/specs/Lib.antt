pub mod Talk
pub mod Conn
pub mod Utterances
