-- What was read of a line, against what is meant.
use Rattle.std.proofs.Common.{◌≡◌, false, refl}
use Rattle.std.specs.Prelude.{Result, is_ok}
use Rattle.batch_text.specs.declared.line_kind.LineKind.{LineKind as ReadKind}
use Rattle.batch_text.specs.declared.line_kind.LineKind.TheVariants as read_kind
use Rattle.base_model.specs.Fields.{◌>>=◌}
use Rattle.text_model.specs.LineKind.{LineKind}
use Rattle.batch_text.specs.SeenLine.{IsFaultOf}

-- a fault of one step is the fault of the steps together
pub fault_goes_on : {A B : Type 0} (kind : ReadKind) (meant : Result A LineKind) (f : A → Result B LineKind) → IsFaultOf kind meant → IsFaultOf kind (meant >>= f)
fault_goes_on read_kind.NoMemory meant f is = tt
fault_goes_on other meant f is = rw is refl

-- where a fault is told that is not want of memory, nothing is understood
pub not_understood : {A : Type 0} (kind : ReadKind) (meant : Result A LineKind) → IsFaultOf kind meant → (kind ≡ read_kind.NoMemory → ⊥) → is_ok meant ≡ false
not_understood read_kind.NoMemory meant is other = absurd (other refl)
not_understood kind meant is other = rw is refl
