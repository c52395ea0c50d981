mod NodePieces
mod OrderedItems
mod NodeKeys
mod SlotGroups
mod ItemRuns
mod RootRuns
