pub mod Writing
pub mod SoundFiles
pub mod OneOfMany
pub mod Replay
pub mod Kept
pub mod WritesMade
pub mod Picked
