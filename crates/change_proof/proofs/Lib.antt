pub mod ChangedPairs
pub mod LaidPairs
pub mod LocalPairs
pub mod CheckedRange
pub mod LastChange
pub mod EarlyReasons
pub mod AcceptedProofs
