pub mod Files
pub mod Crash
pub mod Moments
pub mod Words
pub mod Calls
pub mod Laws
