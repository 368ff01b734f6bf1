pub mod SchedulesAgree
mod NodesAgree
mod RunningNodes
mod RunningNodeOfNumber
mod FirstNetwork
mod CarriedOctets
mod ComputedExamples
mod ConnectionsAfterEntry
mod OnePiece
mod FirstFields
mod CompletedByMore
mod LinkPerEntry
pub mod FieldsOfStarts
mod LinksOnlyGrow
pub mod HandedOutEvents
mod ReadSideAfterEntry
mod JournalsOfIncarnations
mod TextLineByLine
mod ListsCountedFromOne
pub mod TooLongText
mod LooksAtLinks
mod ConnectionsAfterMoves
mod OpenedAfterEntry
mod OpeningConnections
mod NothingWaitsUnnumbered
mod OctetsByPart
mod MovesWithEntries
mod PutOnLinks
mod MovesWithoutEntries
mod RestOfEvents
mod CountedOctets
pub mod MovesInTurn
mod SameMarksWhenCut
mod LinksAfterEntry
pub mod NodeAndLinksAfterEntry
mod FewMessages
mod NodesStartAndGo
mod RowsStandForSame
mod NodesAfterEntry
mod TextsStay
mod RowsOfLinks
