-- Which event a statement has next: it starts where its session waits, and goes on with what the session is at.
use Rattle.std.proofs.Common.{◌≡◌, ℕ, false, List, length, Option, Some, None, refl, sym, ◌∙◌, ap, subst, true≢false}
use Rattle.std.specs.Prelude.{IsSome, is_some}
use Rattle.seg_words.specs.Types.{Shape}
use Rattle.disk_model.specs.Crash.{Meaning}
use Rattle.session_laws.specs.Sessions.{own_backed}
use Rattle.script_text.specs.declared.statement.Statement.{Statement}
use Rattle.script_text.specs.declared.statement.Statement.TheVariants as asked
use Rattle.script_text.specs.declared.statement.Target.{Target}
use Rattle.script_text.specs.declared.statement.Target.TheVariants.{Label, Number}
use Rattle.history_model.specs.History.{bound}
use Rattle.history_model.specs.Spans.{Span, target_row}
use Rattle.history_laws.specs.Acting.{TakesBack}
use Rattle.history_laws.specs.Working.{Work, BackStands, RowWork, RowStands, OpenScan, MoveWork, StoppedWork, Inserting, OnRow, Scanning, TakingBack, Shrinking, Lowering, WorkStands}
use Rattle.session_model.specs.Doings.{Working, Repairing, takes_back}
use Rattle.session_model.specs.Repairs.{RepairWork, RepairFits}
use Rattle.session_model.specs.Worlds.{IsReady}
use Rattle.store_core.specs.Store.{Held}
use Rattle.scan_table.specs.declared.scan.OpenScan.{OpenScan as TheScan}
use Rattle.session_core.specs.declared.session.Doing.{Doing as Told}
use Rattle.session_core.specs.declared.session.Doing.TheVariants as told
use Rattle.session_core.specs.declared.session.RowWork.{RowWork as ToldWork}
use Rattle.session_core.specs.declared.session.RepairWork.{RepairWork as ToldRepair}
use Rattle.session_core.specs.Acting.{IsAt, IsStarting}
use Rattle.session_core.specs.Changes.{IsRowChange, IsChanging}
use Rattle.session_core.specs.Ends.{MayRollBack}
use Rattle.session_core.specs.Inserts.{IsInserting}
use Rattle.session_core.specs.RowWorks.{work_of}
use Rattle.session_core.specs.RepairWorks.{repair_of}
use Rattle.session_core.specs.RepairEvents.{IsRepairing}
use Rattle.session_core.specs.ShrinkWorks.{shrink_of, lower_of}
use Rattle.session_core.specs.Scanned.{doing_at, scan_in}
use Rattle.session_core.proofs.NewRows.{insert_under_way, still_named}
use Rattle.session_step.specs.Bindings.{row_of, row_by}
use Rattle.session_step.specs.Stages.{IsHeld}
use Rattle.session_step.specs.Turning.{IsTurnOf, inserting_in, work_in, repairing_in, backing_in}

-- ---- what is under way of which statement

-- statements of one event
abbrev pub IsOnce : Statement → Type 0
IsOnce (asked.Table name pctfree) = Unit {0}
IsOnce (asked.Movement name on) = Unit {0}
IsOnce asked.Commit = Unit {0}
IsOnce (asked.Usage name) = Unit {0}
IsOnce (asked.Fix name block value) = Unit {0}
IsOnce st = ⊥

never_works : (sh : Shape) (x : Span) (st : Statement) (k : Work) → IsOnce st → WorkStands sh x (Some st) k → ⊥
never_works sh x (asked.Table name pctfree) k o h = h
never_works sh x (asked.Movement name on) k o h = h
never_works sh x asked.Commit k o h = h
never_works sh x (asked.Usage name) k o h = h
never_works sh x (asked.Fix name block value) k o h = h
never_works sh x st k o h = absurd o

never_repairs : (sh : Shape) (x : Span) (st : Statement) (k : RepairWork) → IsOnce st → RepairFits sh x (Some st) k → ⊥
never_repairs sh x (asked.Table name pctfree) k o h = h
never_repairs sh x (asked.Movement name on) k o h = h
never_repairs sh x asked.Commit k o h = h
never_repairs sh x (asked.Usage name) k o h = h
never_repairs sh x (asked.Fix name block value) k o h = h
never_repairs sh x st k o h = absurd o

once_waits : (sh : Shape) (x : Span) (st : Statement) (p : Option TheScan) (d : Told) → IsOnce st → IsReady sh x (Some st) (doing_at p d) → d ≡ told.Waiting
once_waits sh x st p told.Waiting o r = refl
once_waits sh x st p (told.Inserting t) o r = absurd (never_works sh x st (Inserting t) o r.1)
once_waits sh x st p (told.TakingBack t) o r = absurd (never_works sh x st (TakingBack t) o r.1)
once_waits sh x st p (told.OnRow w) o r = absurd (never_works sh x st (OnRow (work_of w)) o r.1)
once_waits sh x st p told.Scanning o r = absurd (never_works sh x st (Scanning (scan_in p)) o r.1)
once_waits sh x st p (told.Repairing w) o r = absurd (never_repairs sh x st (repair_of w) o r.1)
once_waits sh x st p (told.Shrinking w) o r = absurd (never_works sh x st (Shrinking (shrink_of w)) o r.1)
once_waits sh x st p (told.Lowering w) o r = absurd (never_works sh x st (Lowering (lower_of w)) o r.1)

insert_waits : (sh : Shape) (x : Span) (name label text : List ℕ) (p : Option TheScan) (d : Told) → inserting_in d ≡ None → IsReady sh x (Some (asked.Insert name label text)) (doing_at p d) → d ≡ told.Waiting
insert_waits sh x name label text p told.Waiting e r = refl
insert_waits sh x name label text p (told.Inserting t) e r = absurd (let z : ◌≡◌ {A = Option ℕ} (Some t) None = e in cc)
insert_waits sh x name label text p (told.TakingBack t) e r = absurd r.1
insert_waits sh x name label text p (told.OnRow w) e r = absurd r.1
insert_waits sh x name label text p told.Scanning e r = absurd r.1
insert_waits sh x name label text p (told.Repairing w) e r = absurd r.1
insert_waits sh x name label text p (told.Shrinking w) e r = absurd r.1
insert_waits sh x name label text p (told.Lowering w) e r = absurd r.1

inserting_is : (d : Told) (o : ℕ) → inserting_in d ≡ Some o → d ≡ told.Inserting o
inserting_is told.Waiting o e = absurd (let z : ◌≡◌ {A = Option ℕ} None (Some o) = e in cc)
inserting_is (told.Inserting t) o e = let z : ◌≡◌ {A = Option ℕ} (Some t) (Some o) = e in let y : t ≡ o = cc in ap (λ (n : ℕ). told.Inserting n) y
inserting_is (told.TakingBack t) o e = absurd (let z : ◌≡◌ {A = Option ℕ} None (Some o) = e in cc)
inserting_is (told.OnRow w) o e = absurd (let z : ◌≡◌ {A = Option ℕ} None (Some o) = e in cc)
inserting_is told.Scanning o e = absurd (let z : ◌≡◌ {A = Option ℕ} None (Some o) = e in cc)
inserting_is (told.Repairing w) o e = absurd (let z : ◌≡◌ {A = Option ℕ} None (Some o) = e in cc)
inserting_is (told.Shrinking w) o e = absurd (let z : ◌≡◌ {A = Option ℕ} None (Some o) = e in cc)
inserting_is (told.Lowering w) o e = absurd (let z : ◌≡◌ {A = Option ℕ} None (Some o) = e in cc)

-- an update or a delete is at a work of its own
row_never : (sh : Shape) (x : Span) (st : Statement) (t : ℕ) → IsRowChange st → WorkStands sh x (Some st) (Inserting t) → ⊥
row_never sh x (asked.Update name target text) t i h = h
row_never sh x (asked.Delete name target) t i h = h
row_never sh x st t i h = absurd i

row_no_back : (sh : Shape) (x : Span) (st : Statement) (t : ℕ) → IsRowChange st → WorkStands sh x (Some st) (TakingBack t) → ⊥
row_no_back sh x (asked.Update name target text) t i h = h
row_no_back sh x (asked.Delete name target) t i h = h
row_no_back sh x st t i h = absurd i

row_no_scan : (sh : Shape) (x : Span) (st : Statement) (s : OpenScan) → IsRowChange st → WorkStands sh x (Some st) (Scanning s) → ⊥
row_no_scan sh x (asked.Update name target text) s i h = h
row_no_scan sh x (asked.Delete name target) s i h = h
row_no_scan sh x st s i h = absurd i

row_no_repair : (sh : Shape) (x : Span) (st : Statement) (k : RepairWork) → IsRowChange st → RepairFits sh x (Some st) k → ⊥
row_no_repair sh x (asked.Update name target text) k i h = h
row_no_repair sh x (asked.Delete name target) k i h = h
row_no_repair sh x st k i h = absurd i

row_no_shrink : (sh : Shape) (x : Span) (st : Statement) (k : MoveWork) → IsRowChange st → WorkStands sh x (Some st) (Shrinking k) → ⊥
row_no_shrink sh x (asked.Update name target text) k i h = h
row_no_shrink sh x (asked.Delete name target) k i h = h
row_no_shrink sh x st k i h = absurd i

row_no_lower : (sh : Shape) (x : Span) (st : Statement) (k : StoppedWork) → IsRowChange st → WorkStands sh x (Some st) (Lowering k) → ⊥
row_no_lower sh x (asked.Update name target text) k i h = h
row_no_lower sh x (asked.Delete name target) k i h = h
row_no_lower sh x st k i h = absurd i

row_waits : (sh : Shape) (x : Span) (st : Statement) (p : Option TheScan) (d : Told) → IsRowChange st → work_in d ≡ None → IsReady sh x (Some st) (doing_at p d) → d ≡ told.Waiting
row_waits sh x st p told.Waiting i e r = refl
row_waits sh x st p (told.Inserting t) i e r = absurd (row_never sh x st t i r.1)
row_waits sh x st p (told.TakingBack t) i e r = absurd (row_no_back sh x st t i r.1)
row_waits sh x st p (told.OnRow w) i e r = absurd (let z : ◌≡◌ {A = Option ToldWork} (Some w) None = e in cc)
row_waits sh x st p told.Scanning i e r = absurd (row_no_scan sh x st (scan_in p) i r.1)
row_waits sh x st p (told.Repairing w) i e r = absurd (row_no_repair sh x st (repair_of w) i r.1)
row_waits sh x st p (told.Shrinking w) i e r = absurd (row_no_shrink sh x st (shrink_of w) i r.1)
row_waits sh x st p (told.Lowering w) i e r = absurd (row_no_lower sh x st (lower_of w) i r.1)

work_is : (d : Told) (w : ToldWork) → work_in d ≡ Some w → d ≡ told.OnRow w
work_is told.Waiting w e = absurd (let z : ◌≡◌ {A = Option ToldWork} None (Some w) = e in cc)
work_is (told.Inserting t) w e = absurd (let z : ◌≡◌ {A = Option ToldWork} None (Some w) = e in cc)
work_is (told.TakingBack t) w e = absurd (let z : ◌≡◌ {A = Option ToldWork} None (Some w) = e in cc)
work_is (told.OnRow v) w e = let z : ◌≡◌ {A = Option ToldWork} (Some v) (Some w) = e in let y : v ≡ w = cc in ap (λ (u : ToldWork). told.OnRow u) y
work_is told.Scanning w e = absurd (let z : ◌≡◌ {A = Option ToldWork} None (Some w) = e in cc)
work_is (told.Repairing v) w e = absurd (let z : ◌≡◌ {A = Option ToldWork} None (Some w) = e in cc)
work_is (told.Shrinking v) w e = absurd (let z : ◌≡◌ {A = Option ToldWork} None (Some w) = e in cc)
work_is (told.Lowering v) w e = absurd (let z : ◌≡◌ {A = Option ToldWork} None (Some w) = e in cc)

row_stands : (sh : Shape) (x : Span) (st : Statement) (k : RowWork) → IsRowChange st → WorkStands sh x (Some st) (OnRow k) → RowStands sh x st k
row_stands sh x (asked.Update name target text) k i h = h
row_stands sh x (asked.Delete name target) k i h = h
row_stands sh x st k i h = absurd i

-- a rollback takes a transaction back
back_never : (sh : Shape) (x : Span) (st : Option Statement) (t : ℕ) → TakesBack st → IsReady sh x st (Working (Inserting t)) → ⊥
back_never sh x (Some asked.Rollback) t k r = r.1
back_never sh x None t k r = r.1
back_never sh x st t k r = absurd k

back_no_row : (sh : Shape) (x : Span) (st : Option Statement) (q : RowWork) → TakesBack st → IsReady sh x st (Working (OnRow q)) → ⊥
back_no_row sh x (Some asked.Rollback) q k r = r.1
back_no_row sh x None q k r = r.1
back_no_row sh x st q k r = absurd k

back_no_scan : (sh : Shape) (x : Span) (st : Option Statement) (s : OpenScan) → TakesBack st → IsReady sh x st (Working (Scanning s)) → ⊥
back_no_scan sh x (Some asked.Rollback) s k r = r.1
back_no_scan sh x None s k r = r.1
back_no_scan sh x st s k r = absurd k

back_no_repair : (sh : Shape) (x : Span) (st : Option Statement) (q : RepairWork) → TakesBack st → IsReady sh x st (Repairing q) → ⊥
back_no_repair sh x (Some asked.Rollback) q k r = r.1
back_no_repair sh x None q k r = r.1
back_no_repair sh x st q k r = absurd k

back_no_shrink : (sh : Shape) (x : Span) (st : Option Statement) (q : MoveWork) → TakesBack st → IsReady sh x st (Working (Shrinking q)) → ⊥
back_no_shrink sh x (Some asked.Rollback) q k r = r.1
back_no_shrink sh x None q k r = r.1
back_no_shrink sh x st q k r = absurd k

back_no_lower : (sh : Shape) (x : Span) (st : Option Statement) (q : StoppedWork) → TakesBack st → IsReady sh x st (Working (Lowering q)) → ⊥
back_no_lower sh x (Some asked.Rollback) q k r = r.1
back_no_lower sh x None q k r = r.1
back_no_lower sh x st q k r = absurd k

back_waits : (sh : Shape) (x : Span) (st : Option Statement) (p : Option TheScan) (d : Told) → TakesBack st → backing_in d ≡ None → IsReady sh x st (doing_at p d) → d ≡ told.Waiting
back_waits sh x st p told.Waiting k e r = refl
back_waits sh x st p (told.Inserting t) k e r = absurd (back_never sh x st t k r)
back_waits sh x st p (told.TakingBack t) k e r = absurd (let z : ◌≡◌ {A = Option ℕ} (Some t) None = e in cc)
back_waits sh x st p (told.OnRow w) k e r = absurd (back_no_row sh x st (work_of w) k r)
back_waits sh x st p told.Scanning k e r = absurd (back_no_scan sh x st (scan_in p) k r)
back_waits sh x st p (told.Repairing w) k e r = absurd (back_no_repair sh x st (repair_of w) k r)
back_waits sh x st p (told.Shrinking w) k e r = absurd (back_no_shrink sh x st (shrink_of w) k r)
back_waits sh x st p (told.Lowering w) k e r = absurd (back_no_lower sh x st (lower_of w) k r)

backing_is : (d : Told) (t : ℕ) → backing_in d ≡ Some t → d ≡ told.TakingBack t
backing_is told.Waiting t e = absurd (let z : ◌≡◌ {A = Option ℕ} None (Some t) = e in cc)
backing_is (told.Inserting o) t e = absurd (let z : ◌≡◌ {A = Option ℕ} None (Some t) = e in cc)
backing_is (told.TakingBack u) t e = let z : ◌≡◌ {A = Option ℕ} (Some u) (Some t) = e in let y : u ≡ t = cc in ap (λ (n : ℕ). told.TakingBack n) y
backing_is (told.OnRow w) t e = absurd (let z : ◌≡◌ {A = Option ℕ} None (Some t) = e in cc)
backing_is told.Scanning t e = absurd (let z : ◌≡◌ {A = Option ℕ} None (Some t) = e in cc)
backing_is (told.Repairing w) t e = absurd (let z : ◌≡◌ {A = Option ℕ} None (Some t) = e in cc)
backing_is (told.Shrinking w) t e = absurd (let z : ◌≡◌ {A = Option ℕ} None (Some t) = e in cc)
backing_is (told.Lowering w) t e = absurd (let z : ◌≡◌ {A = Option ℕ} None (Some t) = e in cc)

back_ready : (sh : Shape) (x : Span) (st : Option Statement) (t : ℕ) → TakesBack st → IsReady sh x st (Working (TakingBack t)) → BackStands x t
back_ready sh x (Some asked.Rollback) t k r = r.1
back_ready sh x None t k r = r.1
back_ready sh x st t k r = absurd k

-- a scan is open where one is read
scan_waits : (sh : Shape) (x : Span) (name : List ℕ) (p : Option TheScan) (d : Told) → p ≡ None → IsHeld p d → IsReady sh x (Some (asked.Scan name)) (doing_at p d) → d ≡ told.Waiting
scan_waits sh x name p told.Waiting e h r = refl
scan_waits sh x name p (told.Inserting t) e h r = absurd r.1
scan_waits sh x name p (told.TakingBack t) e h r = absurd r.1
scan_waits sh x name p (told.OnRow w) e h r = absurd r.1
scan_waits sh x name p told.Scanning e h r = absurd (true≢false (sym (subst IsSome e h)))
scan_waits sh x name p (told.Repairing w) e h r = absurd r.1
scan_waits sh x name p (told.Shrinking w) e h r = absurd r.1
scan_waits sh x name p (told.Lowering w) e h r = absurd r.1

scan_open : (p : Option TheScan) (d : Told) → IsSome p → IsHeld p d → d ≡ told.Scanning
scan_open p told.Waiting s h = absurd (true≢false (sym (subst IsSome h s)))
scan_open p (told.Inserting t) s h = absurd (true≢false (sym (subst IsSome h s)))
scan_open p (told.TakingBack t) s h = absurd (true≢false (sym (subst IsSome h s)))
scan_open p (told.OnRow w) s h = absurd (true≢false (sym (subst IsSome h s)))
scan_open p told.Scanning s h = refl
scan_open p (told.Repairing w) s h = absurd (true≢false (sym (subst IsSome h s)))
scan_open p (told.Shrinking w) s h = absurd (true≢false (sym (subst IsSome h s)))
scan_open p (told.Lowering w) s h = absurd (true≢false (sym (subst IsSome h s)))

-- a repair goes through its list
repair_waits : (sh : Shape) (x : Span) (name : List ℕ) (p : Option TheScan) (d : Told) → repairing_in d ≡ None → IsReady sh x (Some (asked.Repair name)) (doing_at p d) → d ≡ told.Waiting
repair_waits sh x name p told.Waiting e r = refl
repair_waits sh x name p (told.Inserting t) e r = absurd r.1
repair_waits sh x name p (told.TakingBack t) e r = absurd r.1
repair_waits sh x name p (told.OnRow w) e r = absurd r.1
repair_waits sh x name p told.Scanning e r = absurd r.1
repair_waits sh x name p (told.Repairing w) e r = absurd (let z : ◌≡◌ {A = Option ToldRepair} (Some w) None = e in cc)
repair_waits sh x name p (told.Shrinking w) e r = absurd r.1
repair_waits sh x name p (told.Lowering w) e r = absurd r.1

repairing_is : (d : Told) (w : ToldRepair) → repairing_in d ≡ Some w → d ≡ told.Repairing w
repairing_is told.Waiting w e = absurd (let z : ◌≡◌ {A = Option ToldRepair} None (Some w) = e in cc)
repairing_is (told.Inserting t) w e = absurd (let z : ◌≡◌ {A = Option ToldRepair} None (Some w) = e in cc)
repairing_is (told.TakingBack t) w e = absurd (let z : ◌≡◌ {A = Option ToldRepair} None (Some w) = e in cc)
repairing_is (told.OnRow v) w e = absurd (let z : ◌≡◌ {A = Option ToldRepair} None (Some w) = e in cc)
repairing_is told.Scanning w e = absurd (let z : ◌≡◌ {A = Option ToldRepair} None (Some w) = e in cc)
repairing_is (told.Repairing v) w e = let z : ◌≡◌ {A = Option ToldRepair} (Some v) (Some w) = e in let y : v ≡ w = cc in ap (λ (u : ToldRepair). told.Repairing u) y
repairing_is (told.Shrinking v) w e = absurd (let z : ◌≡◌ {A = Option ToldRepair} None (Some w) = e in cc)
repairing_is (told.Lowering v) w e = absurd (let z : ◌≡◌ {A = Option ToldRepair} None (Some w) = e in cc)

-- ---- the premises of the events

module _ {D : Type 0} (meaning : Meaning D) (x : Span) (who : ℕ) (own : Option ℕ) (labels : List (List ℕ × ℕ)) (p : Option TheScan) (d : Told) (s : Held D) where
  -- the same statement under another name
  pub turn_as : (st st' : Statement) → st ≡ st' → IsTurnOf meaning x (Some st) who own labels p d s → IsTurnOf meaning x (Some st') who own labels p d s
  turn_as st st' e t = subst (λ (z : Statement). IsTurnOf meaning x (Some z) who own labels p d s) e t

  pub starts : (st : Option Statement) → d ≡ told.Waiting → IsTurnOf meaning x st who own labels p d s → IsStarting x
  starts st e t = record {
    at_once = sym (subst (λ (z : Told). IsReady s.shape x st (doing_at p z)) e t.ready);
    whole = t.whole (ap (λ (z : Told). takes_back (doing_at p z)) e);
  }

  pub once_starts : (st : Statement) → IsOnce st → IsTurnOf meaning x (Some st) who own labels p d s → IsStarting x
  once_starts st o t = starts (Some st) (once_waits s.shape x st p d o t.ready) t

  pub once_waiting : (st : Statement) → IsOnce st → IsTurnOf meaning x (Some st) who own labels p d s → d ≡ told.Waiting
  once_waiting st o t = once_waits s.shape x st p d o t.ready

  pub insert_starts : (name label text : List ℕ) → inserting_in d ≡ None → IsTurnOf meaning x (Some (asked.Insert name label text)) who own labels p d s → IsStarting x
  insert_starts name label text e t = starts (Some (asked.Insert name label text)) (insert_waits s.shape x name label text p d e t.ready) t

  pub insert_goes_on : (name label text : List ℕ) (o : ℕ) → inserting_in d ≡ Some o → IsTurnOf meaning x (Some (asked.Insert name label text)) who own labels p d s → IsInserting s.shape x name label text o
  insert_goes_on name label text o e t =
      let is = inserting_is d o e in
      insert_under_way s.shape x name label text o (subst (λ (z : Told). IsReady s.shape x (Some (asked.Insert name label text)) (doing_at p z)) is t.ready) t.extends t.at.stands.lawful.allowed
      (t.whole (ap (λ (z : Told). takes_back (doing_at p z)) is))

  pub turn_on : (st : Statement) (w : ToldWork) → work_in d ≡ Some w → IsTurnOf meaning x (Some st) who own labels p d s → IsTurnOf meaning x (Some st) who own labels p (told.OnRow w) s
  turn_on st w e t = subst (λ (z : Told). IsTurnOf meaning x (Some st) who own labels p z s) (work_is d w e) t

  pub row_starts : (st : Statement) → IsRowChange st → work_in d ≡ None → IsTurnOf meaning x (Some st) who own labels p d s → IsStarting x
  row_starts st i e t = starts (Some st) (row_waits s.shape x st p d i e t.ready) t

  target_is : (target : Target) → ((l : List ℕ) → row_of labels l ≡ bound x.scripts x.past l) → target_row x.scripts x.past target ≡ row_by labels target
  target_is (Label l) h = sym (h l)
  target_is (Number n) h = refl

  pub row_meant : (st : Statement) (target : Target) → IsRowChange st → work_in d ≡ None → IsTurnOf meaning x (Some st) who own labels p d s → target_row x.scripts x.past target ≡ row_by labels target
  row_meant st target i e t = target_is target (t.labelled (row_waits s.shape x st p d i e t.ready))

  pub back_goes_on : (st : Option Statement) (t : ℕ) → TakesBack st → backing_in d ≡ Some t → IsTurnOf meaning x st who own labels p d s → BackStands x t
  back_goes_on st t k e r = back_ready s.shape x st t k (subst (λ (z : Told). IsReady s.shape x st (doing_at p z)) (backing_is d t e) r.ready)

  pub back_starts : (st : Option Statement) → TakesBack st → backing_in d ≡ None → IsTurnOf meaning x st who own labels p d s → IsStarting x
  back_starts st k e t = starts st (back_waits s.shape x st p d k e t.ready) t

  pub scan_starts : (name : List ℕ) → p ≡ None → IsTurnOf meaning x (Some (asked.Scan name)) who own labels p d s → IsStarting x
  scan_starts name e t = starts (Some (asked.Scan name)) (scan_waits s.shape x name p d e t.held t.ready) t

  pub scan_goes_on : (name : List ℕ) → IsSome p → IsTurnOf meaning x (Some (asked.Scan name)) who own labels p d s → IsReady s.shape x (Some (asked.Scan name)) (doing_at p told.Scanning)
  scan_goes_on name o t = subst (λ (z : Told). IsReady s.shape x (Some (asked.Scan name)) (doing_at p z)) (scan_open p d o t.held) t.ready

  pub scan_whole : (name : List ℕ) → IsSome p → IsTurnOf meaning x (Some (asked.Scan name)) who own labels p d s → own_backed x.ended x.session ≡ false
  scan_whole name o t = t.whole (ap (λ (z : Told). takes_back (doing_at p z)) (scan_open p d o t.held))

-- a repair that is at its work
module _ {D : Type 0} (meaning : Meaning D) (x : Span) (who : ℕ) (own : Option ℕ) (labels : List (List ℕ × ℕ)) (p : Option TheScan) (d : Told) (s : Held D) where
  pub repair_starts : (name : List ℕ) → repairing_in d ≡ None → IsTurnOf meaning x (Some (asked.Repair name)) who own labels p d s → IsStarting x
  repair_starts name e t = starts meaning x who own labels p d s (Some (asked.Repair name)) (repair_waits s.shape x name p d e t.ready) t

  pub repair_goes_on : (name : List ℕ) (begins : ℕ) (w : ToldRepair) → begins ≡ length x.begun → repairing_in d ≡ Some w → IsTurnOf meaning x (Some (asked.Repair name)) who own labels p d s → IsRepairing s.shape x name begins w
  repair_goes_on name begins w b e t =
      let is = repairing_is d w e in
      let ready : IsReady s.shape x (Some (asked.Repair name)) (doing_at p (told.Repairing w)) = subst (λ (z : Told). IsReady s.shape x (Some (asked.Repair name)) (doing_at p z)) is t.ready in
      record { passed = ready.0; extends = t.extends; begins_is = b; stands = ready.1; whole = t.whole (ap (λ (z : Told). takes_back (doing_at p z)) is) }

-- an update or a delete that is at its work
pub row_under_way : {D : Type 0} (meaning : Meaning D) (x : Span) (st : Statement) (who : ℕ) (own : Option ℕ) (labels : List (List ℕ × ℕ)) (p : Option TheScan) (w : ToldWork) (s : Held D) → IsRowChange st → IsTurnOf meaning x (Some st) who own labels p (told.OnRow w) s → IsChanging s.shape x st (work_of w)
row_under_way meaning x st who own labels p w s i t = record {
  kind = i;
  passed = t.ready.0;
  stands = stands;
  still = still_named s.shape x.begun x.ended stands.on.name w.obj t.extends t.at.stands.lawful.allowed stands.on.table;
  whole = t.whole refl;
}
  where
    stands : RowStands s.shape x st (work_of w)
    stands = row_stands s.shape x st (work_of w) i t.ready.1

-- the transaction that is taken back is the session's
pub back_at : {D : Type 0} (meaning : Meaning D) (x : Span) (own : Option ℕ) (t : ℕ) (s : Held D) → BackStands x t → IsAt meaning x own s → IsAt meaning x (Some t) s
back_at meaning x own t s b at = subst (λ (o : Option ℕ). IsAt meaning x o s) (sym at.own_is ∙ b.own_now) at

pub may_roll : (st : Option Statement) (own : Option ℕ) → TakesBack st → (st ≡ None → own ≡ None → ⊥) → MayRollBack st own
may_roll (Some asked.Rollback) own k f = tt
may_roll None (Some t) k f = tt
may_roll None None k f = absurd (f refl refl)
may_roll st own k f = absurd k

-- nothing is there
pub closed_so : {A : Type 0} → (o : Option A) → is_some o ≡ false → o ≡ None
closed_so None e = refl
closed_so (Some v) e = absurd (true≢false e)
