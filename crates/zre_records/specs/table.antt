pub mod Kept
pub mod Table
pub mod Tabulator
pub mod Writes
