pub mod CommandComplete
mod CommandOutcomes
pub mod GateComplete
pub mod KeysAsNames
pub mod LedgersKept
pub mod NoMemoryAtStart
mod RefusedReads
