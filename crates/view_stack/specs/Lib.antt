pub mod Slots
pub mod Tree
pub mod Links
pub mod Paths
pub mod EndedViews
pub mod Forests
pub mod ViewAnswers
