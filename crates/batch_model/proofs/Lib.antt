pub mod SizedBytes
pub mod Batches
pub mod SetChanges
