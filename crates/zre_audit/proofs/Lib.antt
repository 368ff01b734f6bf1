pub mod BirthsSeenOutside
pub mod CodesArePrefixFree
pub mod CountedMessages
pub mod FirstTooMany
pub mod JudgedIsAgreed
pub mod LinesOfLinks
pub mod LoopsOverLists
pub mod OrderedPrefixes
pub mod RunsHaveLinks
pub mod PlacesForAll
pub mod PushesOfEntries
mod WorkedLists
pub mod RunsOfOnePeer
pub mod SilentMarks
pub mod ToldIsSaid
pub mod WatchAfterEntry
