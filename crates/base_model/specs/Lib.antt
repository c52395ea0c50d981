pub mod Bytes
pub mod Bits
pub mod Uvarint
pub mod ReadUvarint
pub mod Fields
pub mod Member
pub mod Faults
pub mod Streams
