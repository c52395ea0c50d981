pub mod WaysDown
