pub mod CommandByFields
pub mod TypedPieces
pub mod OrdersUpToQuit
pub mod LinesOfPrefix
