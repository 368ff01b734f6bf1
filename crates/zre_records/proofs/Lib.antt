mod AuditIsWritten
pub mod CommandEnding
pub mod InvalidStaysInvalid
pub mod CapturesAreReplayed
mod ScheduleIsWritten
