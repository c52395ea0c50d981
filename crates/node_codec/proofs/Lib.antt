pub mod NodePieces
pub mod RestBits
pub mod Children
pub mod WholeNodes
