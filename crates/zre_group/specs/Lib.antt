pub mod JoinFault
pub mod Own
