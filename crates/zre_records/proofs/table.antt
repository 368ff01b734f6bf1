pub mod WritesOfEntry
pub mod FramesTaken
pub mod TabulatorFedPiece
