use Rattle.std.proofs.Common.{◌≤◌, ◌+◌, Result}
use Rattle.std.specs.Option.{is_some}
use Rattle.base_model.specs.Faults.{TellsAlike}
use Rattle.bit_keys.specs.Branch.{width_of}
use Rattle.trie_model.specs.Maps.{Map}
use Rattle.store_model.specs.Refusals.{Refusal}
use Rattle.text_model.specs.Lines.{input_limit}
use Rattle.batch_text.specs.Stream.{EndHolds}
use Rattle.batch_text.proofs.UsedBytes.{HasUsed}
use Rattle.run_model.specs.OutsideThings.{disk_seen}
use Rattle.verify_run.specs.LocalStores.{IsLocal, IsFoundWhere}
use Rattle.verify_run.proofs.LinesSoFar.{passes, Within}
use Rattle.verify_run.proofs.VerifyEnds.{Known}
use Rattle.verify_run.proofs.lines.check_lines.Given as goal

abbrev pub invariant-lines : goal.invariant-lines
invariant-lines g l =
    let left = g.S.Source.left in
    let taken = g.K.Sink.taken in
    let w = width_of l.fn.branch in
    let first = disk_seen g.D.Disk.words l.fn.disk in record {
      local : IsLocal w first (disk_seen g.D.Disk.words l.disk) l.store;
      known : Known w first (is_some l.store) (left l.fn.input) l.number l.reader (left l.input) (taken l.fn.out) (taken l.out);
      used : (found : Result Map Refusal) → IsFoundWhere (is_some l.store) w first found → HasUsed (passes w found) (left l.fn.input) l.reader (left l.input);
      within : Within (left l.fn.input) l.reader (left l.input);
      room : l.number + l.reader.allowed ≤ input_limit + 1;
      ended : EndHolds l.reader.ended (left l.input);
      tells : TellsAlike (left l.fn.input) (left l.input);
      reads : g.S.Source.faults l.fn.input ≤ g.S.Source.faults l.input;
      writes : g.K.Sink.faults l.fn.out ≤ g.K.Sink.faults l.out;
    }

abbrev pub decreases-lines : goal.decreases-lines
decreases-lines g l = l.reader.allowed
