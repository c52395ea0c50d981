pub mod RootDecided
pub mod WorkedRuns
mod ReadRanges
pub mod RangeWords
pub mod VerifyLines
pub mod StoredMaps
pub mod ToldThings
pub mod PrintedText
