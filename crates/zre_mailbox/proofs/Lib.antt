pub mod TalkGrows
pub mod ConnAfterOctets
pub mod ArrivalsInOrder
pub mod ArrivalsOfUtterances
