pub mod Values
pub mod Deltas
pub mod Changes
pub mod Cuts
pub mod WorkedHistories
