-- The first event of a shrink.
use Rattle.std.proofs.Common.{◌≡◌, ℕ, Bool, List, Option, Some, None, sym, ◌∙◌, ap, subst}
use Rattle.std.specs.Prelude.{is_some, Result, Ok, Err}
use Rattle.seg_words.specs.Types.{Shape}
use Rattle.disk_model.specs.Crash.{Meaning}
use Rattle.redo_model.specs.Records.{Record}
use Rattle.redo_model.specs.Model.{table_named, has_movement, HasMovement}
use Rattle.session_laws.specs.Sessions.{own_of}
use Rattle.script_text.specs.declared.statement.Statement.TheVariants as asked
use Rattle.history_text.specs.declared.refusal.Refusal.{Refusal}
use Rattle.history_text.specs.declared.refusal.Refusal.TheVariants as why
use Rattle.history_model.specs.Spans.{Span}
use Rattle.history_laws.proofs.Owned.{none_some}
use Rattle.store_core.specs.Store.{Held, SameLoan}
use Rattle.store_core.specs.Causes.{HasCause, HasLooked}
use Rattle.store_core.specs.declared.fault.StoreFault.{StoreFault}
use Rattle.scan_table.specs.declared.scan.OpenScan.{OpenScan}
use Rattle.shrink_move.specs.declared.fault.ShrinkFault.{ShrinkFault}
use Rattle.shrink_move.specs.declared.fault.ShrinkFault.TheVariants as faults
use Rattle.shrink_move.specs.declared.shrink.Shrink.{Shrink}
use Rattle.shrink_move.specs.Starts.{HasStarted, IsSoundStart, StartIs, store_part}
use Rattle.session_core.specs.declared.turned.Turned.TheVariants as turned
use Rattle.session_core.specs.declared.turned.Acted.{Acted}
use Rattle.session_core.specs.Acting.{IsAt, IsStarting, Turns, HasCalled}
use Rattle.session_core.specs.Changes.{refused_as}
use Rattle.session_core.specs.Marks.{HasActedMarking}
use Rattle.session_core.specs.ShrinkEvents.{begun_if, not_shrunk}
use Rattle.session_core.specs.Starting.{IsBusyBy, IsFullAt, IsTested}
use Rattle.session_core.specs.Tests.{tested_movement}
use Rattle.session_core.proofs.Calls.{acted_looked, acted_told, called_err, called_ok}
use Rattle.session_core.proofs.MakingTables.{at_begun, begun_named, first_turns, full_begun}
use Rattle.session_core.proofs.ShrinkTests.{movement_is_off, shrink_tested}
use Rattle.session_core.proofs.ShrinkSteps.{begun_turns}
use Rattle.session_core.proofs.Marking.{unmarked}
use Rattle.session_core.proofs.Sparing.{marking_as}

tested_turns : (sh : Shape) (x : Span) (name : List ℕ) (compact : Bool) (own : Option ℕ) (o : ℕ) (s : Shrink) (t : Result (Unit {0}) Refusal) → IsStarting x → table_named x.begun name ≡ Some o → HasStarted sh x.ended o 0 None s → IsTested sh x (asked.Shrink name compact) t → own_of x.ended x.session ≡ own
    → Turns sh x (Some (asked.Shrink name compact)) x.ended (begun_if t s own)
tested_turns sh x name compact own o s (Ok u) st there h f mine = begun_turns sh x name compact own o 0 s st there h f mine
tested_turns sh x name compact own o s (Err y) st there h f mine = first_turns sh x (asked.Shrink name compact) y own st f mine

pub begun_acted : {D : Type 0} (meaning : Meaning D) (x : Span) (name : List ℕ) (compact : Bool) (own busy : Option ℕ) (o : ℕ) (s : Shrink) (within full : Bool) (t : Result (Unit {0}) Refusal) (z : Acted) (a b : Held D) → z ≡ begun_if t s own → t ≡ tested_movement within busy full → within ≡ is_some own → IsAt meaning x own a → IsStarting x
    → IsBusyBy x name busy → table_named x.ended name ≡ Some o → HasStarted a.shape x.ended o 0 None s → IsFullAt x.ended full → HasLooked {T = Unit {0}} meaning a b (Ok tt) → (scans : List (Option OpenScan)) → HasActedMarking meaning x (Some (asked.Shrink name compact)) scans scans a b (Ok z)
begun_acted meaning x name compact own busy o s within full t z a b e is w at st free there h f looked scans =
    let begun = begun_named x name (Some o) st there in
    let on : HasMovement x.begun o = subst (λ (R : List Record). HasMovement R o) st.at_once h.movement in
    let tested = shrink_tested a.shape x name compact o own busy full begun on (at_begun meaning x own a at st) (full_begun x full st f) free in
    let passed = subst (IsTested a.shape x (asked.Shrink name compact)) (sym (is ∙ ap (λ (v : Bool). tested_movement v busy full) w)) tested in
    marking_as meaning x (Some (asked.Shrink name compact)) scans a b (Ok z) (Ok (begun_if t s own)) (ap (λ (y : Acted). Ok y) e)
    (record { acted = acted_told {A = Unit {0}} meaning x (Some (asked.Shrink name compact)) own a b tt (begun_if t s own) at looked (tested_turns a.shape x name compact own o s t st begun h passed at.own_is); marks = unmarked x.ended scans })

not_begun : {D : Type 0} (meaning : Meaning D) (x : Span) (name : List ℕ) (compact : Bool) (own : Option ℕ) (o : ℕ) (f : ShrinkFault) (a b : Held D) → IsAt meaning x own a → IsStarting x → table_named x.ended name ≡ Some o → StartIs a.shape x.ended o 0 None (Err f) → IsSoundStart (Err f)
    → HasLooked {T = Unit {0}} meaning a b (store_part {T = Shrink} (Err f)) → (scans : List (Option OpenScan)) → HasActedMarking meaning x (Some (asked.Shrink name compact)) scans scans a b (not_shrunk f own)
not_begun meaning x name compact own o faults.MovementOff a b at st there h sound looked scans =
    let off = movement_is_off a.shape x name compact o (begun_named x name (Some o) st there) (sym (ap (λ (R : List Record). has_movement R o) st.at_once) ∙ h) in
    record { acted = acted_told {A = Unit {0}} meaning x (Some (asked.Shrink name compact)) own a b tt (refused_as why.MovementOff own) at looked (first_turns a.shape x (asked.Shrink name compact) why.MovementOff own st off at.own_is); marks = unmarked x.ended scans }
not_begun meaning x name compact own o (faults.ShrinkBusy v) a b at st there h sound looked scans = none_some v _ h.other
not_begun meaning x name compact own o (faults.UndoFull hs) a b at st there h sound looked scans = absurd h
not_begun meaning x name compact own o (faults.Store f) a b at st there h sound looked scans = record { acted = acted_looked {A = Unit {0}} meaning x (Some (asked.Shrink name compact)) own a b f at looked sound; marks = unmarked x.ended scans }

pub unbegun_acted : {D : Type 0} (meaning : Meaning D) (x : Span) (name : List ℕ) (compact : Bool) (own : Option ℕ) (o : ℕ) (f : ShrinkFault) (q : Result Acted StoreFault) (a b : Held D) → q ≡ not_shrunk f own → IsAt meaning x own a → IsStarting x → table_named x.ended name ≡ Some o → StartIs a.shape x.ended o 0 None (Err f) → IsSoundStart (Err f)
    → HasLooked {T = Unit {0}} meaning a b (store_part {T = Shrink} (Err f)) → (scans : List (Option OpenScan)) → HasActedMarking meaning x (Some (asked.Shrink name compact)) scans scans a b q
unbegun_acted meaning x name compact own o f q a b e at st there h sound looked scans = marking_as meaning x (Some (asked.Shrink name compact)) scans a b q (not_shrunk f own) e (not_begun meaning x name compact own o f a b at st there h sound looked scans)

-- ---- of any store

not_called : {D : Type 0} (T : Type 0) (meaning : Meaning D) (own : Option ℕ) (f : ShrinkFault) (a b : Held D) → a.fault ≡ None → SameLoan meaning a b → HasCause {T = Unit {0}} meaning a b (store_part {T = T} (Err f)) → HasCalled meaning a b (not_shrunk f own)
not_called T meaning own faults.MovementOff a b n loan cause = called_ok {A = Unit {0}} meaning a b tt (refused_as why.MovementOff own) n loan cause
not_called T meaning own (faults.ShrinkBusy v) a b n loan cause = called_ok {A = Unit {0}} meaning a b tt (refused_as (why.ShrinkBusy v) own) n loan cause
not_called T meaning own (faults.UndoFull hs) a b n loan cause = called_ok {A = Unit {0}} meaning a b tt (refused_as (why.UndoFull hs) own) n loan cause
not_called T meaning own (faults.Store f) a b n loan cause = called_err {A = Unit {0}} meaning a b f n loan cause

pub unshrunk_called : {D : Type 0} (T : Type 0) (meaning : Meaning D) (own : Option ℕ) (f : ShrinkFault) (q : Result Acted StoreFault) (a b : Held D) → q ≡ not_shrunk f own → a.fault ≡ None → SameLoan meaning a b → HasCause {T = Unit {0}} meaning a b (store_part {T = T} (Err f)) → HasCalled meaning a b q
unshrunk_called T meaning own f q a b e n loan cause = subst (λ (z : Result Acted StoreFault). HasCalled meaning a b z) (sym e) (not_called T meaning own f a b n loan cause)
