pub mod PutOfPieces
pub mod PutCommands
pub mod ReaderProgress
pub mod RefusedReads
