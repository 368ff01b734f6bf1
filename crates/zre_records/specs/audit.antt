pub mod Again
pub mod Audit
pub mod Auditor
pub mod Cut
pub mod Later
pub mod Seam
pub mod Watched
