pub mod FollowFedPiece
pub mod FollowFedParts
pub mod TextIsMonotone
pub mod MessageSteps
