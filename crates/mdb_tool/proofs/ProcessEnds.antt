-- How a process ends, by the status of its run.
use Rattle.std.proofs.Common.{◌≡◌, ◌≢◌, ℕ, Bool, List, refl, ap}
use Rattle.run_model.specs.OutsideThings.{OutputSeen}
use Rattle.run_model.specs.End.{Done as DoneEnd, end_number}
use Rattle.mdb_tool.specs.declared.status.Status.{Status}
use Rattle.mdb_tool.specs.declared.status.Status.TheVariants.{Done, BadWords, BadLine, NotAStore, BranchDiffers, Damaged, VerifyRefused, NotHeld, Limit, Read, Write, Disk, NoMemory}
use Rattle.mdb_tool.specs.Ends.{end_of}
use Rattle.mdb_tool.specs.Process.{TellsEnd, Greets, EndsBy}

done_status : (status : Status) → end_of status ≡ DoneEnd → status ≡ Done
done_status Done is = refl
done_status (BadWords place) is = let no : ⊥ = cc is in absurd no
done_status (BadLine number) is = let no : ⊥ = cc is in absurd no
done_status (NotAStore file) is = let no : ⊥ = cc is in absurd no
done_status (BranchDiffers kept asked) is = let no : ⊥ = cc is in absurd no
done_status (Damaged file at) is = let no : ⊥ = cc is in absurd no
done_status (VerifyRefused line cause) is = let no : ⊥ = cc is in absurd no
done_status NotHeld is = let no : ⊥ = cc is in absurd no
done_status (Limit kind) is = let no : ⊥ = cc is in absurd no
done_status Read is = let no : ⊥ = cc is in absurd no
done_status Write is = let no : ⊥ = cc is in absurd no
done_status Disk is = let no : ⊥ = cc is in absurd no
done_status NoMemory is = let no : ⊥ = cc is in absurd no

-- an output that was greeted, and a status that was told where it is not that of finished work, and whose number ends
-- the process
pub ends_by : (due : Bool) (greeting text : List ℕ) (status : Status) (before greeted after : OutputSeen) (code : ℕ) → Greets due greeting before greeted → (status ≡ Done → after ≡ greeted) → (status ≢ Done → TellsEnd text greeted after) → code ≡ end_number (end_of status) → EndsBy due greeting text (end_of status) before after code
ends_by due greeting text status before greeted after code greets quiet told number = record {
  greeted = greeted;
  greets = greets;
  quiet = λ is. quiet (done_status status is);
  told = λ differs. told (λ is. differs (ap end_of is));
  number = number;
}
