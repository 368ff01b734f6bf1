pub mod EntriesAsMap
pub mod PairsInBothSets
pub mod RisingPairs
