-- The faults of a value store and of views, as a store tells them.
use Rattle.value_store.specs.declared.fault.ValueFault.{ValueFault}
use Rattle.value_store.specs.declared.fault.ValueFault.TheVariants.{Disk as disk, NotAStore as no_store, BranchDiffers as differs, Damaged as damaged, TooLarge as too_large, Full as full, Failed as failed, NoMemory as no_memory}
use Rattle.view_stack.specs.declared.fault.ViewFault.{ViewFault}
use Rattle.view_stack.specs.declared.fault.ViewFault.TheVariants.{Unknown as unknown, NotLive as not_live, TooMany as too_many, TooDeep as too_deep, TooHeavy as too_heavy, NoMemory as no_room}
use Rattle.mdb_core.specs.declared.fault.DbFault.{DbFault}
use Rattle.mdb_core.specs.declared.fault.DbFault.TheVariants.{Disk, NotAStore, BranchDiffers, Damaged, Failed, Unknown, NotLive, TooMany, TooDeep, TooHeavy, TooLarge, Full, NoMemory}

abbrev pub fault_of : ValueFault → DbFault
fault_of disk = Disk
fault_of (no_store file) = NotAStore file
fault_of (differs kept asked) = BranchDiffers kept asked
fault_of (damaged file at) = Damaged file at
fault_of (too_large n) = TooLarge n
fault_of full = Full
fault_of failed = Failed
fault_of no_memory = NoMemory

abbrev pub fault_of_view : ViewFault → DbFault
fault_of_view unknown = Unknown
fault_of_view (not_live s) = NotLive s
fault_of_view too_many = TooMany
fault_of_view too_deep = TooDeep
fault_of_view too_heavy = TooHeavy
fault_of_view no_room = NoMemory
