pub mod ListerFedPiece
