pub mod TakenKeys
pub mod ReachedRanges
