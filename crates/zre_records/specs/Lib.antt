pub mod Laws
pub mod audit
pub mod replay
pub mod table
pub mod simulate
pub mod upgrade
