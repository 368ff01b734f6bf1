pub mod StreamInPieces
pub mod InvalidStaysInvalid
