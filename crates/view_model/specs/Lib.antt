pub mod Forest
pub mod Calls
pub mod Maps
pub mod Standing
pub mod Laws
