pub mod Children
pub mod Items
pub mod Sources
pub mod Shown
pub mod SlotIds
