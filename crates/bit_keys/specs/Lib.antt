pub mod Branch
pub mod Order
pub mod Keys
pub mod Ranges
