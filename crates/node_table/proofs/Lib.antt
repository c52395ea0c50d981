pub mod RowsByKey
pub mod KeysInOrder
pub mod KeptChildren
