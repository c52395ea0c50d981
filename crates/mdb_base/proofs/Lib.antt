pub mod ReadStep
pub mod Groups
pub mod ReadNumber
pub mod WrittenPieces
pub mod VarintLengths
pub mod ChangePlaces
pub mod HeldChanges
pub mod Fronts
