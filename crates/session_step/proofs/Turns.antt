-- What an event of a statement did, with what it leaves in its session's place.
use Rattle.std.proofs.Common.{◌≡◌, ◌≢◌, ℕ, ◌≤◌, true, false, List, length, Option, Some, None, refl, sym, ◌∙◌, ap, subst}
use Rattle.std.specs.Prelude.{option_map, Result, Ok, Err, IfOk}
use Rattle.seg_words.specs.Types.{Shape}
use Rattle.disk_model.specs.Crash.{Meaning}
use Rattle.redo_model.specs.Records.{Record}
use Rattle.script_text.specs.declared.statement.Statement.{Statement}
use Rattle.script_text.specs.declared.statement.Statement.TheVariants as asked
use Rattle.history_text.specs.declared.outcome.Outcome.{Outcome}
use Rattle.history_text.specs.declared.outcome.Outcome.TheVariants as outcome
use Rattle.history_model.specs.declared.history.Kept.{Kept}
use Rattle.history_model.specs.Spans.{Span}
use Rattle.history_model.specs.Means.{Means}
use Rattle.history_laws.specs.Working.{OpenScan, Scanning, WorkStands, later}
use Rattle.session_model.specs.Worlds.{IsReady}
use Rattle.store_core.specs.Store.{Held}
use Rattle.store_core.specs.declared.fault.StoreFault.{StoreFault}
use Rattle.scan_table.specs.declared.scan.OpenScan.{OpenScan as TheScan}
use Rattle.scan_table.specs.Places.{place}
use Rattle.session_core.specs.declared.session.Doing.{Doing as Told}
use Rattle.session_core.specs.declared.session.Doing.TheVariants as told
use Rattle.session_core.specs.declared.turned.Turned.{Turned}
use Rattle.session_core.specs.declared.turned.Turned.TheVariants as turned
use Rattle.session_core.specs.declared.turned.Acted.{Acted}
use Rattle.session_core.specs.Acked.{AcksTurned}
use Rattle.session_core.specs.Acting.{TurnsTo, Turns, HasActed}
use Rattle.session_core.specs.Doings.{no_scan}
use Rattle.session_core.specs.Marks.{HasActedMarking, marked_over}
use Rattle.session_core.specs.Scanned.{IsKept, IsShaped, TurnsAt, TurnsWith, HasActedAt, doing_at, scan_in}
use Rattle.session_core.proofs.Places.{acted_at}
use Rattle.session_step.specs.Stages.{IsHeld, AreOthersMarked}
use Rattle.session_step.specs.Turning.{IsTurnOf, HasTurned}
use Rattle.session_step.proofs.Unmarked.{IsNoLowering, done_releases_none, others_same}

-- ---- a statement that is no scan

abbrev pub IsNoScan : Option Statement → Type 0
IsNoScan (Some (asked.Scan name)) = ⊥
IsNoScan st = Unit {0}

scans_never : (sh : Shape) (x : Span) (st : Option Statement) (s : OpenScan) → IsNoScan st → WorkStands sh x st (Scanning s) → ⊥
scans_never sh x (Some (asked.Scan name)) s i h = i
scans_never sh x (Some (asked.Shrink name true)) s i h = h
scans_never sh x (Some (asked.Shrink name false)) s i h = h
scans_never sh x st s i h = h

-- its session's place is empty
place_empty : (sh : Shape) (x : Span) (st : Option Statement) (p : Option TheScan) (d : Told) → IsNoScan st → IsReady sh x st (doing_at p d) → IsHeld p d → p ≡ None
place_empty sh x st p told.Waiting i r h = h
place_empty sh x st p (told.Inserting t) i r h = h
place_empty sh x st p (told.TakingBack t) i r h = h
place_empty sh x st p (told.OnRow w) i r h = h
place_empty sh x st p (told.Repairing w) i r h = h
place_empty sh x st p (told.Shrinking w) i r h = h
place_empty sh x st p (told.Lowering w) i r h = h
place_empty sh x st p told.Scanning i r h = absurd (scans_never sh x st (scan_in p) i r.1)

kept_to : (sh : Shape) (x : Span) (st : Option Statement) (p : Option TheScan) (v : Turned) → IsNoScan st → p ≡ None → TurnsTo sh x st v → IsKept p v
kept_to sh x st p (turned.Over outcome k) i e h = e
kept_to sh x st p (turned.On told.Waiting) i e h = e
kept_to sh x st p (turned.On (told.Inserting t)) i e h = e
kept_to sh x st p (turned.On (told.TakingBack t)) i e h = e
kept_to sh x st p (turned.On (told.OnRow w)) i e h = e
kept_to sh x st p (turned.On (told.Repairing w)) i e h = e
kept_to sh x st p (turned.On (told.Shrinking w)) i e h = e
kept_to sh x st p (turned.On (told.Lowering w)) i e h = e
kept_to sh x st p (turned.On told.Scanning) i e h = absurd (scans_never sh x st no_scan i h.fits)

kept_ok : (sh : Shape) (x : Span) (st : Option Statement) (p : Option TheScan) (R : List Record) (r : Result Acted StoreFault) → IsNoScan st → p ≡ None → IfOk r (Turns sh x st R) → IfOk r (λ a. IsKept p a.turned)
kept_ok sh x st p R (Ok a) i e h = kept_to sh (later x R) st p a.turned i e h.turns
kept_ok sh x st p R (Err f) i e h = tt

-- an event that leaves its session's place empty
turned_left : {D : Type 0} (meaning : Meaning D) (x : Span) (st : Option Statement) (who : ℕ) (own : Option ℕ) (labels : List (List ℕ × ℕ)) (before after : List (Option TheScan)) (d : Told) (a b : Held D) (r : Result Acted StoreFault) → IsNoScan st → place who after ≡ place who before
    → IsTurnOf meaning x st who own labels (place who before) d a → (h : HasActed meaning x st a b r) → IfOk r (λ y. AcksTurned b y.turned) → AreOthersMarked who (length x.ended) h.records before after → HasTurned meaning x st who before after a b r
turned_left meaning x st who own labels before after d a b r i same t h acked marks = record {
  acted = acted_at meaning x st (place who after) a b r (subst (IsShaped a.shape) (sym same) t.shaped) h;
  kept = kept_ok a.shape x st (place who after) h.records r i (same ∙ place_empty a.shape x st (place who before) d i t.ready t.held) h.turns;
  acked = acked;
  marks = marks;
}

-- one of a statement that lowers no table, and leaves all scans as they were
pub turned_so : {D : Type 0} (meaning : Meaning D) (x : Span) (st : Option Statement) (who : ℕ) (own : Option ℕ) (labels : List (List ℕ × ℕ)) (scans : List (Option TheScan)) (d : Told) (a b : Held D) (r : Result Acted StoreFault) → IsNoScan st → IsNoLowering st → IsTurnOf meaning x st who own labels (place who scans) d a → HasActed meaning x st a b r
    → IfOk r (λ y. AcksTurned b y.turned) → HasTurned meaning x st who scans scans a b r
turned_so meaning x st who own labels scans d a b r i l t h acked =
    turned_left meaning x st who own labels scans scans d a b r i refl t h acked
    (others_same who (length x.ended) h.records scans scans (done_releases_none a.shape x.scripts x.past x.session st x.ended h.records l h.acts.done) (λ v from ne. refl))

-- ---- one that is no commit tells none

abbrev pub IsNoCommit : Option Statement → Type 0
IsNoCommit (Some asked.Commit) = ⊥
IsNoCommit st = Unit {0}

commits_never : (sh : Shape) (x : Span) (st : Option Statement) (n : ℕ) (k : Kept) → IsNoCommit st → Means sh x st (outcome.Committed n) k → ⊥
commits_never sh x (Some asked.Commit) n k i h = i
commits_never sh x (Some (asked.Shrink name true)) n k i h = h
commits_never sh x (Some (asked.Shrink name false)) n k i h = h
commits_never sh x st n k i h = h

acks_outcome : {D : Type 0} (sh : Shape) (x : Span) (st : Option Statement) (b : Held D) (o : Outcome) (k : Kept) → IsNoCommit st → Means sh x st o k → AcksTurned b (turned.Over o k)
acks_outcome sh x st b (outcome.Committed n) k i h = absurd (commits_never sh x st n k i h)
acks_outcome sh x st b o k i h = tt

acks_to : {D : Type 0} (sh : Shape) (x : Span) (st : Option Statement) (p : Option TheScan) (b : Held D) (v : Turned) → IsNoCommit st → TurnsAt p sh x st v → AcksTurned b v
acks_to sh x st p b (turned.On d) i h = tt
acks_to sh x st p b (turned.Over o k) i h = acks_outcome sh x st b o k i h.means

acks_ok : {D : Type 0} (sh : Shape) (x : Span) (st : Option Statement) (p : Option TheScan) (R : List Record) (b : Held D) (r : Result Acted StoreFault) → IsNoCommit st → IfOk r (TurnsWith p sh x st R) → IfOk r (λ y. AcksTurned b y.turned)
acks_ok sh x st p R b (Ok a) i h = acks_to sh (later x R) st p b a.turned i h.turns
acks_ok sh x st p R b (Err f) i h = tt

acks_acted : {D : Type 0} (meaning : Meaning D) (x : Span) (st : Option Statement) (p : Option TheScan) (a b : Held D) (r : Result Acted StoreFault) → IsNoCommit st → HasActedAt meaning x st p a b r → IfOk r (λ y. AcksTurned b y.turned)
acks_acted meaning x st p a b r c h = acks_ok a.shape x st p h.records b r c h.turns

-- an event of a scan
pub turned_scan : {D : Type 0} (meaning : Meaning D) (x : Span) (st : Option Statement) (who : ℕ) (before after : List (Option TheScan)) (a b : Held D) (r : Result Acted StoreFault) → IsNoCommit st → IsNoLowering st → HasActedAt meaning x st (place who after) a b r → IfOk r (λ y. IsKept (place who after) y.turned)
    → ((v : ℕ) → 1 ≤ v → v ≢ who → place v after ≡ place v before) → HasTurned meaning x st who before after a b r
turned_scan meaning x st who before after a b r c l h kept others = record {
  acted = h;
  kept = kept;
  acked = acks_acted meaning x st (place who after) a b r c h;
  marks = others_same who (length x.ended) h.records before after (done_releases_none a.shape x.scripts x.past x.session st x.ended h.records l h.acts.done) others;
}

-- of another statement that ends no transaction
pub turned_plain : {D : Type 0} (meaning : Meaning D) (x : Span) (st : Option Statement) (who : ℕ) (own : Option ℕ) (labels : List (List ℕ × ℕ)) (scans : List (Option TheScan)) (d : Told) (a b : Held D) (r : Result Acted StoreFault) → IsNoScan st → IsNoCommit st → IsNoLowering st → IsTurnOf meaning x st who own labels (place who scans) d a
    → HasActed meaning x st a b r → HasTurned meaning x st who scans scans a b r
turned_plain meaning x st who own labels scans d a b r i c l t h =
    turned_so meaning x st who own labels scans d a b r i l t h (acks_acted meaning x st (place who scans) a b r c (acted_at meaning x st (place who scans) a b r t.shaped h))

-- of one that told what it released
pub turned_marking : {D : Type 0} (meaning : Meaning D) (x : Span) (st : Option Statement) (who : ℕ) (own : Option ℕ) (labels : List (List ℕ × ℕ)) (before after : List (Option TheScan)) (d : Told) (a b : Held D) (r : Result Acted StoreFault) → IsNoScan st → IsNoCommit st → IsTurnOf meaning x st who own labels (place who before) d a
    → HasActedMarking meaning x st before after a b r → HasTurned meaning x st who before after a b r
turned_marking meaning x st who own labels before after d a b r i c t h =
    turned_left meaning x st who own labels before after d a b r i same t h.acted (acks_acted meaning x st (place who before) a b r c (acted_at meaning x st (place who before) a b r t.shaped h.acted)) (λ v from ne. h.marks v from)
  where
    none : place who before ≡ None
    none = place_empty a.shape x st (place who before) d i t.ready t.held

    same : place who after ≡ place who before
    same = h.marks who t.by.from ∙ (ap (option_map (marked_over (length x.ended) h.acted.records)) none ∙ sym none)

-- the same statement under another name
pub turned_as : {D : Type 0} (meaning : Meaning D) (x : Span) (st st' : Statement) (who : ℕ) (before after : List (Option TheScan)) (a b : Held D) (r : Result Acted StoreFault) → st ≡ st' → HasTurned meaning x (Some st') who before after a b r → HasTurned meaning x (Some st) who before after a b r
turned_as meaning x st st' who before after a b r e h = subst (λ (z : Statement). HasTurned meaning x (Some z) who before after a b r) (sym e) h
