-- What has to survive a crash once an entry was told.
use Rattle.std.proofs.Common.{◌≡◌, ℕ, suc, ◌≤◌, ◌&&◌, Bool, true, false, cond, leb, List, ◌∷◌, length, refl, sym, subst, le_refl, arith}
use Rattle.std.specs.Prelude.{None}
use Rattle.std.proofs.lemmas.Bool.{lt-leb}
use Rattle.disk_model.specs.Crash.{Meaning}
use Rattle.redo_model.specs.Records.{Record}
use Rattle.history_text.specs.declared.entry.Entry.{Entry}
use Rattle.history_text.specs.declared.outcome.Outcome.{Outcome}
use Rattle.history_text.specs.declared.outcome.Outcome.TheVariants as told
use Rattle.history_model.specs.declared.history.HistoryItem.{HistoryItem}
use Rattle.history_model.specs.declared.history.HistoryItem.TheVariants as item
use Rattle.store_core.specs.Store.{Held, IsTrue}
use Rattle.store_core.specs.Survives.{Survives, Rises}
use Rattle.store_core.proofs.Surviving.{survives_needed}
use Rattle.session_step.specs.Telling.{Begins, begins_none, begins_one, Ends, ends_none, ends_one, IsAcked, IsEntryOf, OfNewest}
use Rattle.session_world.specs.Whole.{is_commit, needed_by}

begun_needs : (found : ℕ) (T B : List HistoryItem) → Begins T B → needed_by found B ≡ needed_by found T
begun_needs found T B begins_none = refl
begun_needs found T B (begins_one s) = refl

-- a commit's entry says that all records are stable
acked_stable : {D : Type 0} (s : Held D) (R : List Record) (o : Outcome) → IsAcked R s o → is_commit o ≡ true → length R ≤ s.log.stable
acked_stable s R (told.Committed number) h e = h
acked_stable s R (told.Table name) h e = absurd (cc e)
acked_stable s R (told.Movement table on) h e = absurd (cc e)
acked_stable s R (told.Inserted row) h e = absurd (cc e)
acked_stable s R (told.Updated row) h e = absurd (cc e)
acked_stable s R (told.Deleted row) h e = absurd (cc e)
acked_stable s R told.NothingToCommit h e = absurd (cc e)
acked_stable s R told.RolledBack h e = absurd (cc e)
acked_stable s R told.NothingToRollBack h e = absurd (cc e)
acked_stable s R (told.Scan table at rows) h e = absurd (cc e)
acked_stable s R (told.Compacted table moved skipped stop) h e = absurd (cc e)
acked_stable s R (told.Shrunk table moved skipped stop released high) h e = absurd (cc e)
acked_stable s R (told.Usage table usage) h e = absurd (cc e)
acked_stable s R (told.Fixed block kept) h e = absurd (cc e)
acked_stable s R (told.Repaired table changed) h e = absurd (cc e)
acked_stable s R told.Checkpoint h e = absurd (cc e)
acked_stable s R (told.Refused refusal) h e = absurd (cc e)

-- the choice that an entry makes of what is needed
earlier : (c d : Bool) (m n : ℕ) → d ≡ false → cond (c && d) m n ≤ n
earlier true d m n e = subst (λ (z : Bool). cond z m n ≤ n) (sym e) (le_refl n)
earlier false d m n e = le_refl n

later : (c d : Bool) (m n most : ℕ) → (c ≡ true → m ≤ most) → n ≤ most → cond (c && d) m n ≤ most
later true true m n most h k = h refl
later true false m n most h k = k
later false d m n most h k = k

entry_rises : {D : Type 0} (meaning : Meaning D) (who found : ℕ) (R : List Record) (s : Held D) (B : List HistoryItem) (e : Entry) (since : ℕ) → IsEntryOf meaning who R s e → Survives meaning since (needed_by found B) R s
    → Rises (needed_by found B) (λ m. cond (is_commit e.outcome && leb e.moment m) e.ends (needed_by found B m)) (meaning.clock s.disk) s.log.stable
entry_rises meaning who found R s B e since h k = record {
  before = λ m lt. earlier (is_commit e.outcome) (leb e.moment m) e.ends (needed_by found B m) (lt-leb e.moment m (omega (arith, lt, h.moment)));
  since = λ m le. later (is_commit e.outcome) (leb e.moment m) e.ends (needed_by found B m) s.log.stable (λ c. omega (arith, h.ends, acked_stable s R e.outcome h.acked c)) (k.made m);
}

-- after an event what was told by then is needed
pub needs_more : {D : Type 0} (meaning : Meaning D) (who found n m : ℕ) (R : List Record) (s : Held D) (T B U : List HistoryItem) (since : ℕ) → IsTrue meaning R s → s.fault ≡ None → Begins T B → Ends n B m U → (m ≡ suc n → OfNewest (IsEntryOf meaning who R s) U) → Survives meaning since (needed_by found T) R s
    → Survives meaning since (needed_by found U) R s
needs_more meaning who found n m R s T B U since t unspent g ends_none entry h = subst (λ (f : ℕ → ℕ). Survives meaning since f R s) (sym (begun_needs found T B g)) h
needs_more meaning who found n m R s T B U since t unspent g (ends_one e k) entry h =
    let was = subst (λ (f : ℕ → ℕ). Survives meaning since f R s) (sym (begun_needs found T B g)) h in
    survives_needed meaning since (needed_by found B) R s t unspent was (needed_by found (item.Told e k ∷ B)) (entry_rises meaning who found R s B e since (entry refl) was)

-- nothing was told but perhaps a start
pub needs_same : {D : Type 0} (meaning : Meaning D) (found n m : ℕ) (R : List Record) (s : Held D) (T B U : List HistoryItem) (since : ℕ) → Begins T B → Ends n B m U → m ≡ n → Survives meaning since (needed_by found T) R s → Survives meaning since (needed_by found U) R s
needs_same meaning found n m R s T B U since g ends_none e h = subst (λ (f : ℕ → ℕ). Survives meaning since f R s) (sym (begun_needs found T B g)) h
needs_same meaning found n m R s T B U since g (ends_one x k) e h = absurd (omega (arith, e))
