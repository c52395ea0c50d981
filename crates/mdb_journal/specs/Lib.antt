pub mod Journal
pub mod DiskMoves
pub mod Appends
pub mod Opening
pub mod GateWalk
pub mod FirstHeader
