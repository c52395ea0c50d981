pub mod WalkedKeys
pub mod WalkedNodes
pub mod TokenWidths
pub mod JoinedKeys
pub mod SourceCalls
pub mod WaysDown
pub mod AcceptedProofs
