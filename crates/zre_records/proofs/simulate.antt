pub mod LongTextIsRefused
pub mod GatheredLines
pub mod LinesOfMoves
