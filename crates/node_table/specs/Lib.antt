pub mod Rows
pub mod KeptNodes
pub mod Pairs
pub mod TableWords
