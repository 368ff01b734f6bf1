pub mod HeardReplies
pub mod PongsQueued
pub mod BodiesOfFrames
pub mod SendableFronts
pub mod LastOctets
pub mod AppendedMembers
pub mod RemovedOctets
pub mod AnsweredReplies
