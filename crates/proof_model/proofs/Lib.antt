pub mod WireFields
pub mod WireNodes
pub mod WirePoints
pub mod TakenEntries
pub mod ItemOrder
pub mod SortedPairs
pub mod ClaimItems
pub mod AcceptedClaims
mod WorkedPoints
pub mod DescribedValues
pub mod PathKeys
pub mod TruePaths
pub mod RangeBounds
pub mod ShownNodes
pub mod TrueItems
pub mod TrueClaims
pub mod TruePoints
pub mod WireEnds
pub mod WireLists
pub mod WireRanges
pub mod WireChanges
pub mod LastKeys
pub mod AcceptedRanges
pub mod TrueRanges
pub mod ChangedMaps
pub mod ListedChanges
pub mod AcceptedChanges
pub mod TrueChanges
mod WorkedRanges
mod WorkedChanges
