pub mod Changes
pub mod Held
pub mod Between
pub mod Laws
pub mod Worked
