pub mod ReadJob
pub mod Ends
pub mod MapLines
pub mod AskedTexts
pub mod Folder
pub mod MapReads
pub mod Hints
pub mod Process
