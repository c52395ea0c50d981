pub mod Histories
pub mod NetChanges
pub mod MergedDeltas
pub mod ToldChanges
