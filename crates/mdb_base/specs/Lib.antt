pub mod InMemory
pub mod ReadNumbers
pub mod HeldChanges
pub mod Batches
