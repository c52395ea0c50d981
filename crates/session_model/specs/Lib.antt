pub mod Limits
pub mod Refusals
pub mod MapsByRoot
pub mod Session
pub mod Script
pub mod Laws
pub mod Worked
