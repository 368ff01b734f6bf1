pub mod PageShows
pub mod PrintedLines
pub mod AnsweredCall
pub mod PageCalls
