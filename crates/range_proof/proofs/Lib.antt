pub mod KeysInRange
pub mod TakenPairs
pub mod CheckedRange
pub mod AcceptedProofs
