pub mod ReplayerFedPiece
pub mod HeadReplayerFedPiece
pub mod EvasiveLines
pub mod MadeFromSettings
pub mod CaptureInPieces
pub mod EntriesReplayed
