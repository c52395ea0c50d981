pub mod BuilderPairs
pub mod Entries
pub mod PassState
pub mod KeptNodes
pub mod Hashes
