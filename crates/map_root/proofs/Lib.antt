mod EntryItems
mod Pairs
mod OpenNodes
mod PassTable
mod PassSteps
mod PassLoop
mod KeptChildren
