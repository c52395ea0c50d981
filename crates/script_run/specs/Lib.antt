pub mod Ends
pub mod NamedSpots
pub mod ScriptSteps
pub mod PendingChange
