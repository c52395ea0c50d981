pub mod Fields
pub mod Headers
pub mod Records
pub mod Journals
pub mod Refusals
pub mod Gates
pub mod Appends
pub mod WorkedJournals
