pub mod PumpProgress
pub mod EndIsNotReadFault
