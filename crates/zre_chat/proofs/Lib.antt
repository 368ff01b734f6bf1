pub mod ChatOfParts
pub mod ChatOfThreads
