pub mod Fields
pub mod Header
pub mod Record
pub mod Journal
pub mod Refusals
pub mod Openings
pub mod Laws
pub mod Worked
