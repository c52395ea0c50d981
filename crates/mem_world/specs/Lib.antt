pub mod File
pub mod Picks
pub mod Stops
pub mod Changes
pub mod Seen
pub mod Told
pub mod Sound
