use Rattle.std.proofs.Common.{◌≡◌, ◌+◌, List, None, length, refl, sym, ap, ◌∙◌, subst, arith, length-append}
use Rattle.std.specs.FinMap.{entries}
use Rattle.std.specs.List.{flat_map}
use Rattle.base_model.specs.Uvarint.{uvarint}
use Rattle.disk_model.specs.Moments.{Meanwhile}
use Rattle.batch_model.specs.Batch.{Change, AreRising, batch_form, change_form, after_batch}
use Rattle.mdb_journal.specs.Journal.{JournalState, payload_in}
use Rattle.value_store.specs.Values.{ValueState, Keeps, broken}
use Rattle.value_store.specs.Index.{Places, AreInFile}
use Rattle.value_store.specs.ValuePlaces.{laid_all, HasRoom}
use Rattle.value_store.specs.Writes.{StandEither}
use Rattle.value_store.proofs.IndexEntries.{same_places}
use Rattle.value_store.proofs.PlacesAfter.{has_room, laid_all-with_room}
use Rattle.value_store.proofs.PlacedMaps.{in_file-laid_all, in_file-later}
use Rattle.value_store.proofs.WrittenBatches.{is_record, keys_written, written_keeps, leaves_after, either_meanwhile}
use Rattle.value_store.proofs.store.ValueStore.write.Goals as goal

pub returns-in_default-append-clause-fails : goal.returns-in_default-append-clause-fails
returns-in_default-append-clause-fails g c = λ e.
    let index = same_places c.cut.new.self c.self.inside.index (λ q. c.cut.ensures q ∙ c.in-Ok-add_room.ensures.back q) in
    let failed = c.in_default-append.ensures.fails (c.in_default-append.ensures.works (ap (λ (v : ValueState). v.journal.failed) c.self.view_is ∙ c.in_default.ensures.admitted.may.works)
    (omega (arith, c.deref_mut.ensures.len, c.in-Ok.ensures.long, c.in_default.ensures.admitted.may.fits))) in
    ap (λ (x : Places). let v : ValueState = record { journal = c.append.new.self; index = entries x } in v) index
    ∙ ap (λ (j : JournalState). let v : ValueState = record { journal = j; index = entries c.self.inside.index } in v) failed
    ∙ ap broken c.self.view_is

pub returns-in_default-append-clause-meanwhile : goal.returns-in_default-append-clause-meanwhile
returns-in_default-append-clause-meanwhile g c = λ told m keeps synced.
    let w = g.D.Disk.words in
    let cs = c.args.batch.now in
    let old = w.moments c.args.disk.now in
    let new = w.moments c.append.new.disk in
    let room = c.deref_mut.result.now in
    let payload = ap payload_in c.deref_mut.ensures.value ∙ c.in-Ok.ensures.payload in
    let batch = c.changes-changes.ensures.batch in
    let k = subst (λ (v : ValueState). Keeps v m (w.seen c.args.disk.now)) (sym c.self.view_is) keeps in
    let run = c.append.ensures.meanwhile told k.records (is_record cs batch room payload c.in_default.ensures.admitted.may.fits) k.knows synced in
    subst (λ (v : ValueState). Meanwhile (StandEither old v.journal.file m (after_batch m cs)) old new) c.self.view_is
    (either_meanwhile cs batch room payload (record { journal = c.self.inside.journal; index = entries c.self.inside.index }) m (w.seen c.args.disk.now) k old new c.self.inside.journal.file run)

pub settle-requires-clause-room : goal.settle-requires-clause-room
settle-requires-clause-room g c =
    let cs = c.changes-changes.result.now in
    let start = c.end-end.result + 6 + c.uvarint_len.result in
    let rising = subst (λ (l : List Change). AreRising None l) (sym c.changes-changes.ensures.all) c.changes-changes.ensures.batch.rising in
    subst (λ (x : Places). HasRoom start cs x) (sym c.in-Ok-add_room.ensures.ok) (has_room start cs rising c.self.inside.index)

pub invariant_of-self-2 : goal.invariant_of-self-2
invariant_of-self-2 g c =
    let changes = c.changes-changes.result.now in
    let start = c.end-end.result + 6 + c.uvarint_len.result in
    let rising = subst (λ (l : List Change). AreRising None l) (sym c.changes-changes.ensures.all) c.changes-changes.ensures.batch.rising in
    let index = c.self.inside.index in
    let made : c.settle.new.index ≡ laid_all start changes index = c.settle.ensures ∙ ap (λ (x : Places). laid_all start changes x) c.in-Ok-add_room.ensures.ok ∙ laid_all-with_room start changes rising index in
    let end : c.append.new.self.end ≡ c.self.inside.journal.end + length c.deref_mut.result.now = ap (λ (j : JournalState). j.end) c.in-Ok-append.ensures.end in
    let size : length c.deref_mut.result.now ≡ length (uvarint (length changes)) + length (flat_map change_form changes) + 6 =
    omega (arith, c.deref_mut.ensures.len, c.in-Ok.ensures.long, ap (λ l. length (batch_form l)) (sym c.changes-changes.ensures.all), length-append (uvarint (length changes)) (flat_map change_form changes)) in (
      omega (arith, end, c.self.invariant.0),
      subst (λ (x : Places). AreInFile c.append.new.self.end x) (sym made)
          (in_file-laid_all start changes c.append.new.self.end index (omega (arith, c.end-end.ensures.is, c.self.invariant.0)) (omega (arith, end, size, c.end-end.ensures.is, c.uvarint_len.ensures.exact))
          (in_file-later c.self.inside.journal.end c.append.new.self.end index (omega (arith, end)) c.self.invariant.1)),
    )

pub returns-clause-keys : goal.returns-clause-keys
returns-clause-keys g c = λ m has.
    let cs = c.args.batch.now in
    let changes = c.changes-changes.result.now in
    let start = c.end-end.result + 6 + c.uvarint_len.result in
    let rising = subst (λ (l : List Change). AreRising None l) (sym c.changes-changes.ensures.all) c.changes-changes.ensures.batch.rising in
    let index = c.self.inside.index in
    let made : c.settle.new.index ≡ laid_all start cs index =
    c.settle.ensures ∙ ap (λ (x : Places). laid_all start changes x) c.in-Ok-add_room.ensures.ok ∙ laid_all-with_room start changes rising index ∙ ap (λ l. laid_all start l index) c.changes-changes.ensures.all in
    keys_written c.args.self.now m index c.settle.new.index start cs (ap (λ (v : ValueState). v.index) (sym c.self.view_is)) has made

pub returns-clause-contents : goal.returns-clause-contents
returns-clause-contents g c = λ told m keeps.
    let w = g.D.Disk.words in
    let cs = c.args.batch.now in
    let changes = c.changes-changes.result.now in
    let start = c.end-end.result + 6 + c.uvarint_len.result in
    let rising = subst (λ (l : List Change). AreRising None l) (sym c.changes-changes.ensures.all) c.changes-changes.ensures.batch.rising in
    let index = c.self.inside.index in
    let made : c.settle.new.index ≡ laid_all start cs index =
    c.settle.ensures ∙ ap (λ (x : Places). laid_all start changes x) c.in-Ok-add_room.ensures.ok ∙ laid_all-with_room start changes rising index ∙ ap (λ l. laid_all start l index) c.changes-changes.ensures.all in
    let room = c.deref_mut.result.now in
    let payload = ap payload_in c.deref_mut.ensures.value ∙ c.in-Ok.ensures.payload in
    let batch = c.changes-changes.ensures.batch in
    let k = subst (λ (v : ValueState). Keeps v m (w.seen c.args.disk.now)) (sym c.self.view_is) keeps in
    let knows = c.in-Ok-append.ensures.contents told k.records (is_record cs batch room payload c.in_default.ensures.admitted.may.fits) k.knows in
    let place : start ≡ c.self.inside.journal.end + 6 + length (uvarint (length cs)) = omega (arith, c.end-end.ensures.is, c.uvarint_len.ensures.exact, ap (λ l. length (uvarint (length l))) c.changes-changes.ensures.all) in
    written_keeps cs batch room payload (record { journal = c.self.inside.journal; index = entries index }) m (w.seen c.args.disk.now) k (w.seen c.append.new.disk) c.append.new.self index c.settle.new.index start refl c.self.invariant.1 knows (invariant_of-self-2 g c).1 place made

pub returns-clause-left : goal.returns-clause-left
returns-clause-left g c = λ told m keeps synced.
    let w = g.D.Disk.words in
    let cs = c.args.batch.now in
    let room = c.deref_mut.result.now in
    let payload = ap payload_in c.deref_mut.ensures.value ∙ c.in-Ok.ensures.payload in
    let batch = c.changes-changes.ensures.batch in
    let k = subst (λ (v : ValueState). Keeps v m (w.seen c.args.disk.now)) (sym c.self.view_is) keeps in
    leaves_after cs batch room payload (record { journal = c.self.inside.journal; index = entries c.self.inside.index }) m (w.seen c.args.disk.now) k (w.moments c.append.new.disk)
    (c.in-Ok-append.ensures.left told k.records (is_record cs batch room payload c.in_default.ensures.admitted.may.fits) k.knows synced)

pub returns-clause-meanwhile : goal.returns-clause-meanwhile
returns-clause-meanwhile g c = λ told m keeps synced.
    let w = g.D.Disk.words in
    let cs = c.args.batch.now in
    let old = w.moments c.args.disk.now in
    let new = w.moments c.append.new.disk in
    let room = c.deref_mut.result.now in
    let payload = ap payload_in c.deref_mut.ensures.value ∙ c.in-Ok.ensures.payload in
    let batch = c.changes-changes.ensures.batch in
    let k = subst (λ (v : ValueState). Keeps v m (w.seen c.args.disk.now)) (sym c.self.view_is) keeps in
    let run = c.append.ensures.meanwhile told k.records (is_record cs batch room payload c.in_default.ensures.admitted.may.fits) k.knows synced in
    subst (λ (v : ValueState). Meanwhile (StandEither old v.journal.file m (after_batch m cs)) old new) c.self.view_is
    (either_meanwhile cs batch room payload (record { journal = c.self.inside.journal; index = entries c.self.inside.index }) m (w.seen c.args.disk.now) k old new c.self.inside.journal.file run)
