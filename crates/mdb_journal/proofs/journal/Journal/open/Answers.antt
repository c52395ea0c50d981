use Rattle.std.proofs.Common.{false, [], sym, ◌∙◌, subst, arith}
use Rattle.disk_model.specs.Files.{Files}
use Rattle.disk_model.proofs.Telling.{contents_too}
use Rattle.bit_keys.specs.Branch.{width_of}
use Rattle.store_model.specs.Journal.{Hold, IsJournal}
use Rattle.mdb_journal.specs.FirstHeader.{BothClosed, first_header}
use Rattle.mdb_journal.specs.Journal.{Knows}
use Rattle.mdb_journal.specs.Opening.{IsOpened}
use Rattle.mdb_journal.proofs.NeverDamaged.{sound_fault}
use Rattle.mdb_journal.proofs.OpenedFiles.{known_records, no_records, both_closed, first_known, first_opened, first_opens, still_synced, synced_leave, known_hold}
use Rattle.mdb_journal.proofs.journal.Journal.open.Goals as goal

pub returns-in-Ok-Some-clause-records : goal.returns-in-Ok-Some-clause-records
returns-in-Ok-Some-clause-records g c = λ told rs hold.
    let w = g.D.Disk.words in
    let h = rw c.in-Ok-Some.field-0-is at c.in-Ok-Some.ensures in
    let same = c.in-Ok.ensures.contents told in
    let o = subst (λ (s : Files). IsOpened (width_of c.args.branch) s c.in-Ok-Some.journal) same (h.found told) in
    subst (λ (s : Files). Knows c.in-Ok-Some.journal rs s) (sym (h.untouched.seen ∙ same)) (known_records (width_of c.args.branch) (w.seen c.args.disk.now) c.in-Ok-Some.journal rs o hold)

pub returns-in-Ok-make_header-clause-opened : goal.returns-in-Ok-make_header-clause-opened
returns-in-Ok-make_header-clause-opened g c = λ told.
    let w = g.D.Disk.words in
    let h = rw c.in-Ok-None.field-0-is at c.in-Ok-None.ensures in
    let closed = subst BothClosed (sym h.untouched.seen) (both_closed (w.seen c.sync_both.new.disk) (h.none told)) in
    let j = subst (λ n. IsJournal (first_header n) [] (w.seen c.make_header.new.disk 0)) c.width.ensures (c.in-Ok-make_header.ensures.contents told closed) in
    let other = c.in-Ok-make_header.ensures.read_others told 1 (λ e. absurd (omega (arith, e))) in
    first_opened (width_of c.args.branch) (w.seen c.find.new.disk) (w.seen c.make_header.new.disk) closed j other

pub returns-in-Ok-make_header-clause-records : goal.returns-in-Ok-make_header-clause-records
returns-in-Ok-make_header-clause-records g c = λ told rs hold.
    let w = g.D.Disk.words in
    let h = rw c.in-Ok-None.field-0-is at c.in-Ok-None.ensures in
    let closed = subst BothClosed (sym h.untouched.seen) (both_closed (w.seen c.sync_both.new.disk) (h.none told)) in
    let j = subst (λ n. IsJournal (first_header n) [] (w.seen c.make_header.new.disk 0)) c.width.ensures (c.in-Ok-make_header.ensures.contents told closed) in
    let other = c.in-Ok-make_header.ensures.read_others told 1 (λ e. absurd (omega (arith, e))) in
    let none = no_records (w.seen c.sync_both.new.disk) rs (h.none told) (subst (λ (s : Files). Hold s rs) (sym (c.in-Ok.ensures.contents told)) hold) in
    subst (λ rs. Knows (record { file = 0; generation = 1; end = 24; failed = false }) rs (w.seen c.make_header.new.disk)) (sym none) (first_known (width_of c.args.branch) (w.seen c.find.new.disk) (w.seen c.make_header.new.disk) closed j other)

pub returns-in-Ok-make_header-clause-opens : goal.returns-in-Ok-make_header-clause-opens
returns-in-Ok-make_header-clause-opens g c = λ told rs hold.
    let w = g.D.Disk.words in
    let told' = contents_too w.tells told in
    let h = rw c.in-Ok-None.field-0-is at c.in-Ok-None.ensures in
    let closed = subst BothClosed (sym h.untouched.seen) (both_closed (w.seen c.sync_both.new.disk) (h.none told')) in
    let mid = c.sync_both.new.disk in
    let same = c.in-Ok.ensures.contents told' in
    let hold' = subst (λ (s : Files). Hold s rs) (sym same) hold in
    let synced = c.in-Ok.ensures.synced told in
    first_opens (w.moments c.args.disk.now) (w.moments mid) (w.moments c.find.new.disk) (w.moments c.make_header.new.disk) (w.seen mid) rs (c.sync_both.ensures.meanwhile told) synced hold' (no_records (w.seen mid) rs (h.none told') hold') h.untouched.images (c.make_header.ensures.meanwhile told closed (still_synced (w.seen mid) _ (w.moments mid) _ h.untouched.seen h.untouched.images synced))

pub returns-in-Err-make_header-clause-opens : goal.returns-in-Err-make_header-clause-opens
returns-in-Err-make_header-clause-opens g c = λ told rs hold.
    let w = g.D.Disk.words in
    let told' = contents_too w.tells told in
    let h = rw c.in-Ok-None.field-0-is at c.in-Ok-None.ensures in
    let closed = subst BothClosed (sym h.untouched.seen) (both_closed (w.seen c.sync_both.new.disk) (h.none told')) in
    let mid = c.sync_both.new.disk in
    let same = c.in-Ok.ensures.contents told' in
    let hold' = subst (λ (s : Files). Hold s rs) (sym same) hold in
    let synced = c.in-Ok.ensures.synced told in
    first_opens (w.moments c.args.disk.now) (w.moments mid) (w.moments c.find.new.disk) (w.moments c.make_header.new.disk) (w.seen mid) rs (c.sync_both.ensures.meanwhile told) synced hold' (no_records (w.seen mid) rs (h.none told') hold') h.untouched.images (c.make_header.ensures.meanwhile told closed (still_synced (w.seen mid) _ (w.moments mid) _ h.untouched.seen h.untouched.images synced))

pub returns-in-Ok-Some-clause-left : goal.returns-in-Ok-Some-clause-left
returns-in-Ok-Some-clause-left g c = λ told rs hold.
    let w = g.D.Disk.words in
    let h = rw c.in-Ok-Some.field-0-is at c.in-Ok-Some.ensures in
    let synced = still_synced (w.seen c.sync_both.new.disk) _ (w.moments c.sync_both.new.disk) _ h.untouched.seen h.untouched.images (c.in-Ok.ensures.synced told) in
    synced_leave (w.seen c.find.new.disk) (w.moments c.find.new.disk) rs synced (subst (λ (s : Files). Hold s rs) (sym (h.untouched.seen ∙ c.in-Ok.ensures.contents (contents_too w.tells told))) hold)

pub returns-in-Ok-make_header-clause-left : goal.returns-in-Ok-make_header-clause-left
returns-in-Ok-make_header-clause-left g c = λ told rs hold.
    let w = g.D.Disk.words in
    let h = rw c.in-Ok-None.field-0-is at c.in-Ok-None.ensures in
    let synced = still_synced (w.seen c.sync_both.new.disk) _ (w.moments c.sync_both.new.disk) _ h.untouched.seen h.untouched.images (c.in-Ok.ensures.synced told) in
    let knows = returns-in-Ok-make_header-clause-records g c (contents_too w.tells told) rs hold in
    synced_leave (w.seen c.make_header.new.disk) (w.moments c.make_header.new.disk) rs (c.in-Ok-make_header.ensures.synced told synced) (known_hold (record { file = 0; generation = 1; end = 24; failed = false }) rs (w.seen c.make_header.new.disk) knows)

pub returns-in-Err-clause-sound : goal.returns-in-Err-clause-sound
returns-in-Err-clause-sound g c = λ told rs hold.
    let w = g.D.Disk.words in
    let mid = w.seen c.sync_both.new.disk in
    sound_fault mid rs (subst (λ (s : Files). Hold s rs) (sym (c.in-Ok.ensures.contents told)) hold) (width_of c.args.branch) c.in-Err.fault (c.in-Err.ensures.refused told)
