-- The meaning of a journal, in the order in which it reads. First the chronicle, and what is read off it.
pub mod Config
pub mod Chronicle
pub mod Heard
pub mod Connections
pub mod Peers
pub mod Links
-- What comes about at an entry.
pub mod Pushes
pub mod Arrivals
pub mod LinkEntries
pub mod Ticks
pub mod Commands
pub mod Happens
-- What is told, what is done, and what a node is asked.
pub mod Told
pub mod Done
pub mod Events
pub mod Asked
-- What holds of every journal.
pub mod Laws
pub mod Keeping
pub mod Proper
pub mod Standing
pub mod Spoken
pub mod Speaking
pub mod Truth
pub mod Introducing
pub mod Outgoing
pub mod Places
pub mod Causes
pub mod Tables
pub mod Endings
pub mod Cleaning
pub mod Closing
pub mod Leaks
pub mod Isolation
pub mod Silence
pub mod Obeying
pub mod Held
pub mod Cutting
pub mod Hearing
pub mod Answering
pub mod Ledger
