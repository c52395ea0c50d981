pub mod GrownLemmas
pub mod UvarintLemmas
pub mod ReadNumbers
pub mod Bits
pub mod PackedBits
pub mod BitsAt
pub mod Results
pub mod Fields
