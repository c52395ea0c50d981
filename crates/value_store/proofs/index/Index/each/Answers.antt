use Rattle.std.proofs.Common.{◌≡◌, ℕ, List, ◌∷◌, ◌++◌, refl, sym, ap, ◌∙◌, subst, arith}
use Rattle.disk_model.specs.Files.{Files}
use Rattle.mdb_journal.specs.Journal.{JournalState}
use Rattle.value_store.specs.Values.{value_in}
use Rattle.value_store.specs.Index.{places_of, AreInOrder, AreInFile, IsShort, HasShortKeys}
use Rattle.value_store.proofs.PairsTaken.{Entry, Left, Handed, entry_in_file, entry_short, none_left_out, one_less, none_handed, one_handed, all_handed, takes_none, takes_more}
use Rattle.value_store.proofs.index.Index.each.Goals as goal

pub loop-key-init : goal.loop-key-init
loop-key-init g c =
    let w = g.D.Disk.words in record {
      left = none_left_out c.into_iter-key-iterator.result;
      handed = λ told. none_handed g.P.PairSink.takes (w.seen c.args.disk.now c.args.journal.now.file) c.into_iter-key-iterator.result c.args.pairs.now;
      some = takes_none g.P.PairSink.takes c.args.pairs.now;
      journal = refl;
      untouched = record { seen = refl; images = refl };
      later = omega arith;
    }

pub read_value-requires-clause-within : goal.read_value-requires-clause-within
read_value-requires-clause-within g c =
    let all = c.into_iter-key-iterator.result in
    let gives = c.into_iter-key-iterator.ensures.into_iter_gives in
    let left = c.loop-key.invariant.left in
    let is : places_of all ≡ c.args.self.now = ap places_of gives.0 ∙ c.self.view_is in
    let sorted : AreInOrder all = subst AreInOrder (sym gives.0) c.self.invariant.0 in
    let whole : left.done ++ (c.in-Some.key.now, c.in-Some.place.now) ∷ c.next.new.self ≡ all = ap (λ (es : List Entry). left.done ++ es) (sym c.in-Some.ensures.steps) ∙ left.whole in
    let within : AreInFile c.loop-key.journal.end c.args.self.now = subst (λ (j : JournalState). AreInFile j.end c.args.self.now) (sym c.loop-key.invariant.journal) c.requires.within in
    (entry_in_file c.loop-key.journal.end c.args.self.now all left.done c.next.new.self c.in-Some.key.now c.in-Some.place.now is sorted whole within).1

pub loop-key-preserved : goal.loop-key-preserved
loop-key-preserved g c =
    let w = g.D.Disk.words in
    let k = c.loop-key.invariant in
    let all = c.into_iter-key-iterator.result in
    let bytes = w.seen c.args.disk.now c.args.journal.now.file in
    let entry : Entry = (c.in-Some.key.now, c.in-Some.place.now) in
    let e = c.in-Ok.ensures in
    let gives = c.into_iter-key-iterator.ensures.into_iter_gives in
    let is : places_of all ≡ c.args.self.now = ap places_of gives.0 ∙ c.self.view_is in
    let sorted : AreInOrder all = subst AreInOrder (sym gives.0) c.self.invariant.0 in
    let whole : k.left.done ++ (c.in-Some.key.now, c.in-Some.place.now) ∷ c.next.new.self ≡ all = ap (λ (es : List Entry). k.left.done ++ es) (sym c.in-Some.ensures.steps) ∙ k.left.whole in
    let fits : HasShortKeys c.args.self.now = subst HasShortKeys c.self.view_is c.self.invariant.1 in
    let short = entry_short c.args.self.now all k.left.done c.next.new.self c.in-Some.key.now c.in-Some.place.now is sorted whole fits in
    record {
      left = one_less all entry c.next.new.self (subst (λ (es : List Entry). Left all es) c.in-Some.ensures.steps k.left);
      handed = λ told.
          one_handed g.P.PairSink.takes bytes all c.args.pairs.now entry c.next.new.self c.loop-key.pairs c.take.new.self c.in-Ok.value.items
          (subst (λ (es : List Entry). Handed g.P.PairSink.takes bytes all es c.args.pairs.now c.loop-key.pairs) c.in-Some.ensures.steps (k.handed told))
          (e.value told ∙ ap (λ (f : Files). value_in (f c.loop-key.journal.file) entry.1) k.untouched.seen ∙ ap (λ (j : JournalState). value_in (w.seen c.args.disk.now j.file) entry.1) k.journal)
          (subst (λ (key : List ℕ). g.P.PairSink.takes c.loop-key.pairs key c.in-Ok.value.items c.take.new.self) c.deref.ensures.value (subst (λ (value : List ℕ). g.P.PairSink.takes c.loop-key.pairs c.deref.result.now value c.take.new.self) c.deref-in-loop-key.ensures.value c.in-Ok-take.ensures));
      some = takes_more g.P.PairSink.takes c.args.pairs.now c.deref.result.now c.deref-in-loop-key.result.now c.loop-key.pairs c.take.new.self k.some (subst IsShort (sym c.deref.ensures.value) short) c.in-Ok-take.ensures;
      journal = e.stays (λ no. let none : ⊥ = cc no in none) ∙ k.journal;
      untouched = record { seen = c.read_value.ensures.untouched.seen ∙ k.untouched.seen; images = c.read_value.ensures.untouched.images ∙ k.untouched.images };
      later = omega (arith, k.later, c.read_value.ensures.later);
    }

pub returns-clause-taken : goal.returns-clause-taken
returns-clause-taken g c = λ told.
    let w = g.D.Disk.words in
    let all = c.into_iter-key-iterator.result in
    let gives = c.into_iter-key-iterator.ensures.into_iter_gives in
    let bytes = w.seen c.args.disk.now c.args.journal.now.file in
    let is : places_of all ≡ c.args.self.now = ap places_of gives.0 ∙ c.self.view_is in
    let sorted : AreInOrder all = subst AreInOrder (sym gives.0) c.self.invariant.0 in
    all_handed g.P.PairSink.takes bytes all c.args.pairs.now c.args.self.now c.loop-key.pairs is sorted
    (subst (λ (es : List Entry). Handed g.P.PairSink.takes bytes all es c.args.pairs.now c.loop-key.pairs) c.in-None.ensures.steps.0 (c.loop-key.invariant.handed told))
