pub mod ReaderAnswers
pub mod ItemFronts
pub mod CheckResults
pub mod Claims
pub mod Descents
pub mod RefusalReasons
