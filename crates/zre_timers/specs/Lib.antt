pub mod Agreement
pub mod Moments
