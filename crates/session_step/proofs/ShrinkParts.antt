-- Which event of a shrink comes.
use Rattle.std.proofs.Common.{◌≡◌, ℕ, Bool, true, false, List, Option, Some, refl, sym, ap, subst}
use Rattle.std.specs.Prelude.{Result}
use Rattle.seg_words.specs.Types.{Shape}
use Rattle.disk_model.specs.Crash.{Meaning}
use Rattle.script_text.specs.declared.statement.Statement.TheVariants as asked
use Rattle.history_model.specs.Spans.{Span}
use Rattle.history_model.specs.Passing.{FirstPass}
use Rattle.history_laws.specs.Working.{MoveWork, ShrinkStands, StoppedWork, StoppedStands, Shrinking, Lowering, WorkStands}
use Rattle.session_model.specs.Doings.{takes_back}
use Rattle.session_model.specs.Worlds.{IsReady}
use Rattle.store_core.specs.Store.{Held}
use Rattle.store_core.specs.declared.fault.StoreFault.{StoreFault}
use Rattle.scan_table.specs.declared.scan.OpenScan.{OpenScan as TheScan}
use Rattle.scan_table.specs.Places.{place}
use Rattle.session_core.specs.declared.session.Doing.{Doing as Told}
use Rattle.session_core.specs.declared.session.Doing.TheVariants as told
use Rattle.session_core.specs.declared.session.ShrinkWork.{ShrinkWork as ToldShrink}
use Rattle.session_core.specs.declared.session.LowerWork.{LowerWork as ToldLower}
use Rattle.session_core.specs.declared.turned.Acted.{Acted}
use Rattle.session_core.specs.Acting.{IsStarting}
use Rattle.session_core.specs.Marks.{HasActedMarking}
use Rattle.session_core.specs.Scanned.{doing_at}
use Rattle.session_core.specs.ShrinkWorks.{shrink_of, lower_of}
use Rattle.session_core.specs.ShrinkEvents.{IsShrinking, IsLowering}
use Rattle.session_step.specs.declared.shrinking.Part.{Part}
use Rattle.session_step.specs.declared.shrinking.Part.TheVariants as parts
use Rattle.session_step.specs.Turning.{HasTurned, IsTurnOf, part_of}
use Rattle.session_step.proofs.Starting.{starts}
use Rattle.session_step.proofs.Turns.{turned_marking}

-- ---- the parts

no_step : {P : Type 0} (w : ToldShrink) → ◌≡◌ {A = Part} (parts.Step w) parts.First → P
no_step w e = absurd (cc e)

no_last : {P : Type 0} (w : ToldLower) → ◌≡◌ {A = Part} (parts.Last w) parts.First → P
no_last w e = absurd (cc e)

-- its first event comes where its session waits
shrink_waits : (sh : Shape) (x : Span) (name : List ℕ) (compact : Bool) (p : Option TheScan) (d : Told) → part_of d ≡ parts.First → IsReady sh x (Some (asked.Shrink name compact)) (doing_at p d) → d ≡ told.Waiting
shrink_waits sh x name true p told.Waiting e r = refl
shrink_waits sh x name true p (told.Inserting t) e r = absurd r.1
shrink_waits sh x name true p (told.TakingBack t) e r = absurd r.1
shrink_waits sh x name true p (told.OnRow w) e r = absurd r.1
shrink_waits sh x name true p told.Scanning e r = absurd r.1
shrink_waits sh x name true p (told.Repairing w) e r = absurd r.1
shrink_waits sh x name true p (told.Shrinking w) e r = no_step w e
shrink_waits sh x name true p (told.Lowering w) e r = no_last w e
shrink_waits sh x name false p told.Waiting e r = refl
shrink_waits sh x name false p (told.Inserting t) e r = absurd r.1
shrink_waits sh x name false p (told.TakingBack t) e r = absurd r.1
shrink_waits sh x name false p (told.OnRow w) e r = absurd r.1
shrink_waits sh x name false p told.Scanning e r = absurd r.1
shrink_waits sh x name false p (told.Repairing w) e r = absurd r.1
shrink_waits sh x name false p (told.Shrinking w) e r = no_step w e
shrink_waits sh x name false p (told.Lowering w) e r = no_last w e

never_step : {P : Type 0} (w : ToldShrink) → ◌≡◌ {A = Part} parts.First (parts.Step w) → P
never_step w e = absurd (cc e)

last_no_step : {P : Type 0} (v : ToldLower) (w : ToldShrink) → ◌≡◌ {A = Part} (parts.Last v) (parts.Step w) → P
last_no_step v w e = absurd (cc e)

same_step : (v w : ToldShrink) → ◌≡◌ {A = Part} (parts.Step v) (parts.Step w) → v ≡ w
same_step v w e = cc e

step_is : (d : Told) (w : ToldShrink) → part_of d ≡ parts.Step w → d ≡ told.Shrinking w
step_is told.Waiting w e = never_step w e
step_is (told.Inserting t) w e = never_step w e
step_is (told.TakingBack t) w e = never_step w e
step_is (told.OnRow v) w e = never_step w e
step_is told.Scanning w e = never_step w e
step_is (told.Repairing v) w e = never_step w e
step_is (told.Shrinking v) w e = ap (λ (u : ToldShrink). told.Shrinking u) (same_step v w e)
step_is (told.Lowering v) w e = last_no_step v w e

never_last : {P : Type 0} (w : ToldLower) → ◌≡◌ {A = Part} parts.First (parts.Last w) → P
never_last w e = absurd (cc e)

step_no_last : {P : Type 0} (v : ToldShrink) (w : ToldLower) → ◌≡◌ {A = Part} (parts.Step v) (parts.Last w) → P
step_no_last v w e = absurd (cc e)

same_last : (v w : ToldLower) → ◌≡◌ {A = Part} (parts.Last v) (parts.Last w) → v ≡ w
same_last v w e = cc e

last_is : (d : Told) (w : ToldLower) → part_of d ≡ parts.Last w → d ≡ told.Lowering w
last_is told.Waiting w e = never_last w e
last_is (told.Inserting t) w e = never_last w e
last_is (told.TakingBack t) w e = never_last w e
last_is (told.OnRow v) w e = never_last w e
last_is told.Scanning w e = never_last w e
last_is (told.Repairing v) w e = never_last w e
last_is (told.Shrinking v) w e = step_no_last v w e
last_is (told.Lowering v) w e = ap (λ (u : ToldLower). told.Lowering u) (same_last v w e)

-- ---- what stands

step_stands : (sh : Shape) (x : Span) (name : List ℕ) (compact : Bool) (k : MoveWork) → WorkStands sh x (Some (asked.Shrink name compact)) (Shrinking k) → ShrinkStands sh x name k
step_stands sh x name true k h = h
step_stands sh x name false k h = h

-- one that only compacts lowers nothing
last_stands : (sh : Shape) (x : Span) (name : List ℕ) (compact : Bool) (k : StoppedWork) → WorkStands sh x (Some (asked.Shrink name compact)) (Lowering k) → (compact ≡ false) × StoppedStands sh x name k
last_stands sh x name true k h = absurd h
last_stands sh x name false k h = (refl, h)

-- ---- the premises of the events

module _ {D : Type 0} (meaning : Meaning D) (x : Span) (who : ℕ) (own : Option ℕ) (labels : List (List ℕ × ℕ)) (p : Option TheScan) (d : Told) (s : Held D) (name : List ℕ) (compact : Bool) where
  abbrev ready : Told → Type 0
  ready z = IsReady s.shape x (Some (asked.Shrink name compact)) (doing_at p z)

  pub shrink_waiting : part_of d ≡ parts.First → IsTurnOf meaning x (Some (asked.Shrink name compact)) who own labels p d s → d ≡ told.Waiting
  shrink_waiting e t = shrink_waits s.shape x name compact p d e t.ready

  pub shrink_starts : part_of d ≡ parts.First → IsTurnOf meaning x (Some (asked.Shrink name compact)) who own labels p d s → IsStarting x
  shrink_starts e t = starts meaning x who own labels p d s (Some (asked.Shrink name compact)) (shrink_waiting e t) t

  pub shrink_goes_on : (w : ToldShrink) → part_of d ≡ parts.Step w → IsTurnOf meaning x (Some (asked.Shrink name compact)) who own labels p d s → IsShrinking s.shape x name compact w
  shrink_goes_on w e t =
      let is = step_is d w e in
      let now : ready (told.Shrinking w) = subst ready is t.ready in
      record { passed = now.0; extends = t.extends; stands = step_stands s.shape x name compact (shrink_of w) now.1; whole = t.whole (ap (λ (z : Told). takes_back (doing_at p z)) is) }

  pub shrink_ends : (w : ToldLower) → part_of d ≡ parts.Last w → IsTurnOf meaning x (Some (asked.Shrink name compact)) who own labels p d s → (compact ≡ false) × IsLowering s.shape x name w
  shrink_ends w e t =
      let is = last_is d w e in
      let now : ready (told.Lowering w) = subst ready is t.ready in
      let last = last_stands s.shape x name compact (lower_of w) now.1 in
      (last.0, record { passed = subst (λ (b : Bool). FirstPass s.shape x (asked.Shrink name b)) last.0 now.0; extends = t.extends; stands = last.1; whole = t.whole (ap (λ (z : Told). takes_back (doing_at p z)) is) })

-- its last event, of one that doesn't only compact
pub turned_last : {D : Type 0} (meaning : Meaning D) (x : Span) (name : List ℕ) (compact : Bool) (who : ℕ) (own : Option ℕ) (labels : List (List ℕ × ℕ)) (before after : List (Option TheScan)) (d : Told) (a b : Held D) (r : Result Acted StoreFault) → compact ≡ false
    → IsTurnOf meaning x (Some (asked.Shrink name compact)) who own labels (place who before) d a → HasActedMarking meaning x (Some (asked.Shrink name false)) before after a b r → HasTurned meaning x (Some (asked.Shrink name compact)) who before after a b r
turned_last meaning x name compact who own labels before after d a b r e t h =
    turned_marking meaning x (Some (asked.Shrink name compact)) who own labels before after d a b r tt tt t (subst (λ (z : Bool). HasActedMarking meaning x (Some (asked.Shrink name z)) before after a b r) (sym e) h)
