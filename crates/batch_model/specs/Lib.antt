pub mod Sized
pub mod Batch
pub mod Laws
