pub mod UpgraderFedPiece
pub mod EntriesWritten
