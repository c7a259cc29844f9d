-- The events of a shrink until it stops.
use Rattle.std.proofs.Common.{◌≡◌, ◌⊎◌, ℕ, suc, ◌+◌, ◌<◌, ◌≤◌, Bool, true, false, cond, List, [], ◌∷◌, ◌++◌, length, length-append, Option, Some, None, refl, sym, ◌∙◌, ap, subst, arith, inl, inr, le_refl}
use Rattle.std.specs.Prelude.{Result, Ok, Err, IfOk, IfErr}
use Rattle.seg_words.specs.Types.{Shape, is_shape}
use Rattle.disk_model.specs.Crash.{Meaning}
use Rattle.redo_record.specs.declared.record.Record.TheVariants as made
use Rattle.redo_model.specs.Records.{Record, MoveRecord, ReuseRecord}
use Rattle.redo_model.specs.Model.{table_named, data_blocks, is_formatted, HasMovement, IsTable, IsLawful}
use Rattle.session_laws.specs.Sessions.{own_of, own_backed, backed_of}
use Rattle.shrink_laws.specs.declared.skip.Skip.{Skip}
use Rattle.shrink_laws.specs.Stops.{last_formatted, last_position}
use Rattle.shrink_laws.specs.Cursor.{CursorStands, StepMoves, StepSkips}
use Rattle.script_text.specs.declared.statement.Statement.{Statement}
use Rattle.script_text.specs.declared.statement.Statement.TheVariants as asked
use Rattle.history_text.specs.declared.outcome.Outcome.TheVariants as outcome
use Rattle.history_text.specs.declared.outcome.Stop.{Stop}
use Rattle.history_text.specs.declared.outcome.Stop.TheVariants as stops
use Rattle.history_model.specs.declared.history.HistoryItem.{HistoryItem}
use Rattle.history_model.specs.declared.history.Kept.TheVariants as kept
use Rattle.history_model.specs.Spans.{Span}
use Rattle.history_model.specs.Passing.{FirstPass}
use Rattle.history_model.specs.ShrinkMeans.{StopIs}
use Rattle.history_laws.specs.Working.{later, MoveWork, ShrinkStands, StoppedStands}
use Rattle.history_laws.proofs.Owned.{none_some, same_some}
use Rattle.history_laws.proofs.Passes.{accepted_passes, first_later}
use Rattle.history_laws.proofs.Shrinking.{shrinks_begin, shrinks_skip, shrinks_move, cursors_stop, cursors_pass}
use Rattle.history_laws.proofs.Shrinks.{shrinks_stop, compacts_mean}
use Rattle.session_model.specs.Done.{IsDoneBy, done_none, done_one}
use Rattle.session_model.specs.Worlds.{Acts}
use Rattle.store_core.specs.Store.{Held}
use Rattle.store_core.specs.Adding.{HasTried}
use Rattle.store_core.specs.Causes.{IsSoundFault}
use Rattle.store_core.specs.declared.fault.StoreFault.{StoreFault}
use Rattle.store_core.specs.declared.fault.StoreFault.TheVariants.{NoMemory}
use Rattle.scan_table.specs.declared.scan.OpenScan.{OpenScan}
use Rattle.shrink_move.specs.declared.come.Come.{Come}
use Rattle.shrink_move.specs.declared.fault.ShrinkFault.{ShrinkFault}
use Rattle.shrink_move.specs.declared.fault.ShrinkFault.TheVariants as faults
use Rattle.shrink_move.specs.declared.next.Next.{Next}
use Rattle.shrink_move.specs.declared.next.Next.TheVariants.{Bottom, Skips, NoFit, ToBody, ToBlock}
use Rattle.shrink_move.specs.declared.shrink.Shrink.{Shrink}
use Rattle.shrink_move.specs.declared.stepping.ShrinkStep.{ShrinkStep}
use Rattle.shrink_move.specs.Nexts.{NextIs}
use Rattle.shrink_move.specs.Starts.{HasStarted}
use Rattle.shrink_move.specs.Stepping.{HasStepped, MayStep, step_answer, step_list, step_shrink, with_cursor, with_skip}
use Rattle.shrink_move.proofs.FollowLaw.{steps_follow}
use Rattle.shrink_move.proofs.ThereLaw.{cursors_are_there}
use Rattle.session_core.specs.declared.session.Doing.{Doing}
use Rattle.session_core.specs.declared.session.Doing.TheVariants as told
use Rattle.session_core.specs.declared.session.ShrinkWork.{ShrinkWork}
use Rattle.session_core.specs.declared.session.LowerWork.{LowerWork}
use Rattle.session_core.specs.declared.turned.Turned.TheVariants as turned
use Rattle.session_core.specs.declared.turned.Acted.{Acted}
use Rattle.session_core.specs.Acting.{IsAt, IsStarting, Turns, HasActed}
use Rattle.session_core.specs.Marks.{HasActedMarking}
use Rattle.session_core.specs.ShrinkWorks.{shrink_of, lower_of}
use Rattle.session_core.specs.ShrinkEvents.{ComesFurther, IsShrinking, after_step, begun_shrink, goes_on, not_shrunk, step_told}
use Rattle.session_core.proofs.Calls.{acts_none}
use Rattle.session_core.proofs.Sparing.{step_marks}
use Rattle.session_core.proofs.MakingTables.{is_table}

-- ---- it goes on, or is over

on_turns : (sh : Shape) (x : Span) (R : List Record) (name : List ℕ) (compact : Bool) (own : Option ℕ) (w : ShrinkWork) → FirstPass sh (later x R) (asked.Shrink name compact) → ShrinkStands sh (later x R) name (shrink_of w) → own_backed R x.session ≡ false → own_of R x.session ≡ own
    → Turns sh x (Some (asked.Shrink name compact)) R (goes_on (told.Shrinking w) own)
on_turns sh x R name compact own w f s whole o = record {
  turns = record { passed = f; fits = s; whole = λ z. whole };
  own = o;
  kept = tt;
}

stopped_turns : (sh : Shape) (x : Span) (R : List Record) (name : List ℕ) (compact : Bool) (own : Option ℕ) (w : LowerWork) → FirstPass sh (later x R) (asked.Shrink name compact) → StoppedStands sh (later x R) name (lower_of w) → own_backed R x.session ≡ false → own_of R x.session ≡ own
    → Turns sh x (Some (asked.Shrink name compact)) R (step_told (told.Lowering w) compact name own)
stopped_turns sh x R name true own w f s whole o = record {
  turns = record {
    means = (refl, compacts_mean sh (later x R) name (lower_of w) s);
    passes = accepted_passes sh (later x R) (asked.Shrink name true) (outcome.Compacted name w.moved (length w.skips) w.stop) (kept.Stopped w.skips w.stopped) refl f;
    whole = whole;
    closed = λ z. none_some _ _ (sym z);
  };
  own = o;
  kept = tt;
}
stopped_turns sh x R name false own w f s whole o = record {
  turns = record { passed = f; fits = s; whole = λ z. whole };
  own = o;
  kept = tt;
}

-- ---- its first event

work : ℕ → ℕ → List Skip → MoveWork
work o cursor skips = record { obj = o; cursor = cursor; skips = skips; moved = 0 }

begun_as : (s : Shrink) (o cursor : ℕ) → s.obj ≡ o → s.cursor ≡ cursor → s.skips ≡ [] → shrink_of (begun_shrink s) ≡ record { obj = o; cursor = cursor; skips = []; moved = 0 }
unfolding work
begun_as s o cursor p q r = ap (λ (z : ℕ). work z s.cursor s.skips) p ∙ (ap (λ (z : ℕ). work o z s.skips) q ∙ ap (λ (z : List Skip). work o cursor z) r)

pub begun_turns : (sh : Shape) (x : Span) (name : List ℕ) (compact : Bool) (own : Option ℕ) (o who : ℕ) (s : Shrink) → IsStarting x → table_named x.begun name ≡ Some o → HasStarted sh x.ended o who None s → FirstPass sh x (asked.Shrink name compact) → own_of x.ended x.session ≡ own
    → Turns sh x (Some (asked.Shrink name compact)) x.ended (goes_on (told.Shrinking (begun_shrink s)) own)
begun_turns sh x name compact own o who s st there h f mine =
    let cursor = h.cursor ∙ ap (λ (R : List Record). last_formatted sh R o) st.at_once in
    let on : HasMovement x.begun o = subst (λ (R : List Record). HasMovement R o) st.at_once h.movement in
    on_turns sh x x.ended name compact own (begun_shrink s) f
    (subst (ShrinkStands sh x name) (sym (begun_as s o (last_formatted sh x.begun o) h.obj cursor h.skips)) (shrinks_begin sh x name o st.at_once there on)) st.whole mine

-- ---- its cursor stands at one of the table's positions

last_below : (sh : Shape) (B : List Record) (i was : ℕ) (bs : List ℕ) → (last_position sh B i was bs ≡ was) ⊎ (last_position sh B i was bs < i + length bs)
last_below sh B i was [] = inl refl
last_below sh B i was (b ∷ bs) =
    (elim (is_formatted sh B b) as (λ v. (last_position sh B (suc i) (cond v i was) bs ≡ was) ⊎ (last_position sh B (suc i) (cond v i was) bs < i + suc (length bs))) [
      | true ↦ elim (last_below sh B (suc i) i bs) [ inl e ↦ inr (omega (arith, e)) | inr l ↦ inr (omega (arith, l)) ]
      | false ↦ elim (last_below sh B (suc i) was bs) [ inl e ↦ inl e | inr l ↦ inr (omega (arith, l)) ]
    ])

no_far : (xs : List ℕ) → xs ≡ xs ++ []
no_far [] = refl
no_far (x ∷ xs) = ap (λ (z : List ℕ). x ∷ z) (no_far xs)

-- as a shrink begins
cursor_begun : (sh : Shape) (R : List Record) (o : ℕ) → CursorStands sh R R o [] (last_formatted sh R o)
cursor_begun sh R o = record {
  longer = le_refl _;
  far = [];
  grown = no_far (data_blocks sh R o);
  within = le_refl _;
  above = λ i b k l m at full. absurd (omega (arith, l, m));
}

cursor_there : (sh : Shape) (B R : List Record) (o : ℕ) (skips : List Skip) (cursor : ℕ) → is_shape sh ≡ true → IsLawful sh R → IsTable R o → CursorStands sh B R o skips cursor → cursor < length (data_blocks sh R o)
cursor_there sh B R o skips cursor s l t c =
    let most = c.within in
    let some = cursors_are_there sh R R o [] (last_formatted sh R o) s l t (cursor_begun sh R o) in
    let grown = ap (λ (bs : List ℕ). length bs) c.grown ∙ length-append (data_blocks sh B o) c.far in
    elim (last_below sh B 0 0 (data_blocks sh B o)) [
      | inl e ↦ (let z : last_formatted sh B o ≡ 0 = e in omega (arith, most, z, some))
      | inr k ↦ (let z : last_formatted sh B o < 0 + length (data_blocks sh B o) = k in omega (arith, most, z, grown))
    ]

pub table_on : {D : Type 0} (meaning : Meaning D) (x : Span) (name : List ℕ) (compact : Bool) (own : Option ℕ) (w : ShrinkWork) (a : Held D) → IsAt meaning x own a → IsShrinking a.shape x name compact w → IsTable x.ended w.shrink.obj
table_on meaning x name compact own w a at r = is_table meaning x own a name w.shrink.obj at r.stands.still

pub may_step : {D : Type 0} (meaning : Meaning D) (x : Span) (name : List ℕ) (compact : Bool) (own : Option ℕ) (w : ShrinkWork) (a : Held D) → IsAt meaning x own a → IsShrinking a.shape x name compact w → MayStep a.shape x.ended w.shrink
may_step meaning x name compact own w a at r =
    let t = table_on meaning x name compact own w a at r in
    record { table = t; movement = r.stands.movement; there = cursor_there a.shape x.begun x.ended w.shrink.obj w.shrink.skips w.shrink.cursor at.stands.list.within at.stands.lawful t r.stands.cursor }

-- ---- a row is moved

reuse_named : (Q between : List Record) (reuse : Option ReuseRecord) (name : List ℕ) → between ≡ elim reuse [ None ↦ Q | Some q ↦ made.Reuse q ∷ Q ] → table_named between name ≡ table_named Q name
reuse_named Q between None name e = ap (λ (L : List Record). table_named L name) e
reuse_named Q between (Some q) name e = ap (λ (L : List Record). table_named L name) e

reuse_own : (Q between : List Record) (reuse : Option ReuseRecord) (w : ℕ) → between ≡ elim reuse [ None ↦ Q | Some q ↦ made.Reuse q ∷ Q ] → own_of between w ≡ own_of Q w
reuse_own Q between None w e = ap (λ (L : List Record). own_of L w) e
reuse_own Q between (Some q) w e = ap (λ (L : List Record). own_of L w) e

reuse_backed : (Q between : List Record) (reuse : Option ReuseRecord) (o : Option ℕ) → between ≡ elim reuse [ None ↦ Q | Some q ↦ made.Reuse q ∷ Q ] → backed_of between o ≡ backed_of Q o
reuse_backed Q between None o e = ap (λ (L : List Record). backed_of L o) e
reuse_backed Q between (Some q) None e = refl
reuse_backed Q between (Some q) (Some t) e = ap (λ (L : List Record). backed_of L (Some t)) e

reuse_done : (sh : Shape) (scripts : List (List Statement)) (past : List HistoryItem) (w : ℕ) (st : Option Statement) (Q between : List Record) (reuse : Option ReuseRecord) → between ≡ elim reuse [ None ↦ Q | Some q ↦ made.Reuse q ∷ Q ] → IsDoneBy sh scripts past w st Q between
reuse_done sh scripts past w st Q between None e = subst (IsDoneBy sh scripts past w st Q) (sym e) done_none
reuse_done sh scripts past w st Q between (Some q) e = subst (IsDoneBy sh scripts past w st Q) (sym e) (done_one (made.Reuse q) done_none tt)

move_backed : (m : MoveRecord) (R : List Record) (o : Option ℕ) → backed_of (made.Move m ∷ R) o ≡ backed_of R o
move_backed m R None = refl
move_backed m R (Some t) = refl

moved_own : (sh : Shape) (Q R : List Record) (o : ℕ) (skips : List Skip) (cursor place d k w : ℕ) → StepMoves sh Q R o skips cursor place d k → own_of R w ≡ own_of Q w
moved_own sh Q R o skips cursor place d k w m = ap (λ (L : List Record). own_of L w) m.adds ∙ reuse_own Q m.between m.reuse w m.may

moved_backed : (sh : Shape) (Q R : List Record) (o : ℕ) (skips : List Skip) (cursor place d k w : ℕ) → StepMoves sh Q R o skips cursor place d k → own_backed R w ≡ own_backed Q w
moved_backed sh Q R o skips cursor place d k w m =
    ap (λ (L : List Record). own_backed L w) m.adds
    ∙ (move_backed m.move m.between (own_of m.between w) ∙ (ap (backed_of m.between) (reuse_own Q m.between m.reuse w m.may) ∙ reuse_backed Q m.between m.reuse (own_of Q w) m.may))

moved_acts : (sh : Shape) (x : Span) (R : List Record) (name : List ℕ) (compact : Bool) (w : ShrinkWork) (place d k : ℕ) → IsShrinking sh x name compact w → StepMoves sh x.ended R w.shrink.obj w.shrink.skips w.shrink.cursor place d k → Acts sh x (Some (asked.Shrink name compact)) R
moved_acts sh x R name compact w place d k r m = record {
  done = subst (IsDoneBy sh x.scripts x.past x.session (Some (asked.Shrink name compact)) x.ended) (sym m.adds)
      (done_one (made.Move m.move) (reuse_done sh x.scripts x.past x.session (Some (asked.Shrink name compact)) x.ended m.between m.reuse m.may) (reuse_named x.ended m.between m.reuse name m.may ∙ (r.stands.still ∙ ap (λ (o : ℕ). Some o) (sym m.table))));
  passed = inr r.passed;
}

moved_turns : (sh : Shape) (x : Span) (R : List Record) (name : List ℕ) (compact : Bool) (own : Option ℕ) (w : ShrinkWork) (place d k : ℕ) → IsShrinking sh x name compact w → StepMoves sh x.ended R w.shrink.obj w.shrink.skips w.shrink.cursor place d k → own_of x.ended x.session ≡ own
    → Turns sh x (Some (asked.Shrink name compact)) R (goes_on (told.Shrinking (record { shrink = with_cursor w.shrink place; moved = suc w.moved })) own)
moved_turns sh x R name compact own w place d k r m mine =
    let o = w.shrink.obj in
    let skips = w.shrink.skips in
    let cursor = w.shrink.cursor in
    on_turns sh x R name compact own (record { shrink = with_cursor w.shrink place; moved = suc w.moved }) (first_later sh x R (asked.Shrink name compact) r.passed) (shrinks_move sh x R name (shrink_of w) place d k m r.stands)
    (moved_backed sh x.ended R o skips cursor place d k x.session m ∙ r.whole) (moved_own sh x.ended R o skips cursor place d k x.session m ∙ mine)

-- ---- a slot is skipped, or it stops

skipped_turns : (sh : Shape) (x : Span) (name : List ℕ) (compact : Bool) (own : Option ℕ) (w : ShrinkWork) (c : Come) (t : ℕ) → IsShrinking sh x name compact w → StepSkips sh x.ended w.shrink.obj w.shrink.skips w.shrink.cursor c.place c.at.dba c.at.slot t → own_of x.ended x.session ≡ own
    → Turns sh x (Some (asked.Shrink name compact)) x.ended (goes_on (told.Shrinking (record { shrink = with_skip x.ended w.shrink c t; moved = w.moved })) own)
skipped_turns sh x name compact own w c t r k mine =
    on_turns sh x x.ended name compact own (record { shrink = with_skip x.ended w.shrink c t; moved = w.moved }) r.passed (shrinks_skip sh x name (shrink_of w) c.place c.at.dba c.at.slot t k r.stands) r.whole mine

stopped_so : ShrinkWork → ℕ → Stop → LowerWork
stopped_so w n stop = record { obj = w.shrink.obj; skips = w.shrink.skips; moved = w.moved; stopped = n; stop = stop }

stop_turns : (sh : Shape) (x : Span) (name : List ℕ) (compact : Bool) (own : Option ℕ) (w : ShrinkWork) (n : ℕ) (stop : Stop) → IsShrinking sh x name compact w → n ≡ length x.ended → StopIs sh x.begun x.ended w.shrink.obj w.shrink.skips stop → own_of x.ended x.session ≡ own
    → Turns sh x (Some (asked.Shrink name compact)) x.ended (step_told (told.Lowering (record { obj = w.shrink.obj; skips = w.shrink.skips; moved = w.moved; stopped = n; stop = stop })) compact name own)
unfolding stopped_so
stop_turns sh x name compact own w n stop r e s mine =
    subst (λ (m : ℕ). Turns sh x (Some (asked.Shrink name compact)) x.ended (step_told (told.Lowering (stopped_so w m stop)) compact name own)) (sym e)
    (stopped_turns sh x x.ended name compact own (stopped_so w (length x.ended) stop) r.passed (shrinks_stop sh x name (shrink_of w) stop s r.stands) r.whole mine)

-- ---- a step, by what the next one is

-- the records stay
stays : (R list : List Record) → ◌≡◌ {A = Option (List Record)} (Some R) (Some list) → list ≡ R
stays R list e = sym (same_some R list e)

step_acts : (sh : Shape) (x : Span) (list : List Record) (name : List ℕ) (compact : Bool) (w : ShrinkWork) (n : Next) → IsShrinking sh x name compact w → NextIs sh x.ended w.shrink.obj w.shrink.skips w.shrink.cursor n → step_list sh x.ended w.shrink.obj n ≡ Some list → Acts sh x (Some (asked.Shrink name compact)) list
step_acts sh x list name compact w Bottom r h e = subst (Acts sh x (Some (asked.Shrink name compact))) (same_some x.ended list e) (acts_none sh x (Some (asked.Shrink name compact)))
step_acts sh x list name compact w (Skips c t) r h e = subst (Acts sh x (Some (asked.Shrink name compact))) (same_some x.ended list e) (acts_none sh x (Some (asked.Shrink name compact)))
step_acts sh x list name compact w (NoFit c) r h e = subst (Acts sh x (Some (asked.Shrink name compact))) (same_some x.ended list e) (acts_none sh x (Some (asked.Shrink name compact)))
step_acts sh x list name compact w (ToBody c body) r h e = moved_acts sh x list name compact w c.place c.at.dba c.at.slot r (steps_follow sh x.ended list w.shrink.obj w.shrink.skips w.shrink.cursor (ToBody c body) h e)
step_acts sh x list name compact w (ToBlock c target) r h e = moved_acts sh x list name compact w c.place c.at.dba c.at.slot r (steps_follow sh x.ended list w.shrink.obj w.shrink.skips w.shrink.cursor (ToBlock c target) h e)

abbrev TurnsBy : Shape → Span → List ℕ → Bool → Option ℕ → ShrinkWork → Next → ℕ → List Record → Type 0
TurnsBy sh x name compact own w n count list = Turns sh x (Some (asked.Shrink name compact)) list (step_told (after_step (step_answer x.ended n) (step_shrink x.ended w.shrink n) w.moved count) compact name own)

step_turns : (sh : Shape) (x : Span) (list : List Record) (name : List ℕ) (compact : Bool) (own : Option ℕ) (w : ShrinkWork) (n : Next) (count : ℕ) → IsShrinking sh x name compact w → NextIs sh x.ended w.shrink.obj w.shrink.skips w.shrink.cursor n → step_list sh x.ended w.shrink.obj n ≡ Some list → count ≡ length list
    → own_of x.ended x.session ≡ own → TurnsBy sh x name compact own w n count list
step_turns sh x list name compact own w Bottom count r h e c mine =
    subst (TurnsBy sh x name compact own w Bottom count) (same_some x.ended list e)
    (stop_turns sh x name compact own w count stops.Bottom r (c ∙ ap (λ (R : List Record). length R) (stays x.ended list e)) (cursors_pass sh x.begun x.ended w.shrink.obj w.shrink.skips w.shrink.cursor h r.stands.cursor) mine)
step_turns sh x list name compact own w (Skips p t) count r h e c mine = subst (TurnsBy sh x name compact own w (Skips p t) count) (same_some x.ended list e) (skipped_turns sh x name compact own w p t r h mine)
step_turns sh x list name compact own w (NoFit p) count r h e c mine =
    subst (TurnsBy sh x name compact own w (NoFit p) count) (same_some x.ended list e)
    (stop_turns sh x name compact own w count (stops.NoFit p.at) r (c ∙ ap (λ (R : List Record). length R) (stays x.ended list e)) (cursors_stop sh x.begun x.ended w.shrink.obj w.shrink.skips w.shrink.cursor p.place p.at h r.stands.cursor) mine)
step_turns sh x list name compact own w (ToBody p body) count r h e c mine = moved_turns sh x list name compact own w p.place p.at.dba p.at.slot r (steps_follow sh x.ended list w.shrink.obj w.shrink.skips w.shrink.cursor (ToBody p body) h e) mine
step_turns sh x list name compact own w (ToBlock p target) count r h e c mine = moved_turns sh x list name compact own w p.place p.at.dba p.at.slot r (steps_follow sh x.ended list w.shrink.obj w.shrink.skips w.shrink.cursor (ToBlock p target) h e) mine

-- ---- the event

stepped_turns : {D : Type 0} (meaning : Meaning D) (x : Span) (name : List ℕ) (compact : Bool) (own : Option ℕ) (w : ShrinkWork) (s : Shrink) (step : ShrinkStep) (n : ℕ) (a b : Held D) → IsAt meaning x own a → IsShrinking a.shape x name compact w → (h : HasStepped meaning a.shape x.ended a b w.shrink s step) → n ≡ length h.list
    → Turns a.shape x (Some (asked.Shrink name compact)) h.list (step_told (after_step step s w.moved n) compact name own)
stepped_turns meaning x name compact own w s step n a b at r h e =
    subst (λ (z : ShrinkStep). Turns a.shape x (Some (asked.Shrink name compact)) h.list (step_told (after_step z s w.moved n) compact name own)) (sym h.answer_is)
    (subst (λ (z : Shrink). Turns a.shape x (Some (asked.Shrink name compact)) h.list (step_told (after_step (step_answer x.ended h.next) z w.moved n) compact name own)) (sym h.shrink_is)
    (step_turns a.shape x h.list name compact own w h.next n r h.next_is h.list_is e at.own_is))

-- what the step told
pub told_as : (d e : Doing) (compact : Bool) (name : List ℕ) (own : Option ℕ) (q : Result Acted StoreFault) → d ≡ e → IfOk q (λ z. z ≡ step_told d compact name own) → IfOk q (λ z. z ≡ step_told e compact name own)
told_as d e compact name own q is h = subst (λ (x : Doing). IfOk q (λ z. z ≡ step_told x compact name own)) is h

turns_so : (sh : Shape) (x : Span) (st : Option Statement) (R : List Record) (q : Result Acted StoreFault) (y : Acted) → IfOk q (λ z. z ≡ y) → Turns sh x st R y → IfOk q (Turns sh x st R)
turns_so sh x st R (Ok z) y e t = subst (Turns sh x st R) (sym e) t
turns_so sh x st R (Err f) y e t = tt

memory_sound : (q : Result Acted StoreFault) → IfErr q (λ f. f ≡ NoMemory) → IfErr q IsSoundFault
memory_sound (Ok z) h = tt
memory_sound (Err f) h = subst IsSoundFault (sym h) tt

abbrev stepped_acts : {D : Type 0} (meaning : Meaning D) (x : Span) (name : List ℕ) (compact : Bool) (own : Option ℕ) (w : ShrinkWork) (s : Shrink) (step : ShrinkStep) (n : ℕ) (a b : Held D) (q : Result Acted StoreFault) → IsAt meaning x own a → IsShrinking a.shape x name compact w
    → (h : HasStepped meaning a.shape x.ended a b w.shrink s step) → HasTried {T = Unit {0}} meaning a b (Ok tt) → n ≡ length h.list → IfOk q (λ z. z ≡ step_told (after_step step s w.moved n) compact name own) → IfErr q (λ f. f ≡ NoMemory) → HasActed meaning x (Some (asked.Shrink name compact)) a b q
stepped_acts meaning x name compact own w s step n a b q at r h t e is cause = record {
  records = h.list;
  stands = h.stands.list;
  acts = step_acts a.shape x h.list name compact w h.next r h.next_is h.list_is;
  stable = t.stable x.ended at.stands.list;
  survives = h.stands.survives;
  time = t.loan.time x.ended at.stands.list;
  turns = turns_so a.shape x (Some (asked.Shrink name compact)) h.list q (step_told (after_step step s w.moved n) compact name own) is (stepped_turns meaning x name compact own w s step n a b at r h e);
  sound = memory_sound q cause;
}

pub stepped_acted : {D : Type 0} (meaning : Meaning D) (x : Span) (name : List ℕ) (compact : Bool) (own : Option ℕ) (w : ShrinkWork) (s : Shrink) (step : ShrinkStep) (n : ℕ) (a b : Held D) (q : Result Acted StoreFault) (scans : List (Option OpenScan)) → IsAt meaning x own a → IsShrinking a.shape x name compact w
    → (h : HasStepped meaning a.shape x.ended a b w.shrink s step) → HasTried {T = Unit {0}} meaning a b (Ok tt) → n ≡ length h.list → IfOk q (λ z. z ≡ step_told (after_step step s w.moved n) compact name own) → IfErr q (λ f. f ≡ NoMemory) → HasActedMarking meaning x (Some (asked.Shrink name compact)) scans scans a b q
stepped_acted meaning x name compact own w s step n a b q scans at r h t e is cause = record {
  acted = stepped_acts meaning x name compact own w s step n a b q at r h t e is cause;
  marks = step_marks a.shape x.ended h.list w.shrink.obj w.shrink.skips w.shrink.cursor h.next scans h.next_is h.list_is;
}

-- ---- it comes further

comes_further : (R : List Record) (w : ShrinkWork) (n : Next) (count : ℕ) (compact : Bool) (name : List ℕ) (own : Option ℕ) → ComesFurther w (step_told (after_step (step_answer R n) (step_shrink R w.shrink n) w.moved count) compact name own).turned
comes_further R w Bottom count true name own = tt
comes_further R w Bottom count false name own = tt
comes_further R w (Skips p t) count compact name own = omega arith
comes_further R w (NoFit p) count true name own = tt
comes_further R w (NoFit p) count false name own = tt
comes_further R w (ToBody p body) count compact name own = omega arith
comes_further R w (ToBlock p target) count compact name own = omega arith

further_so : (w : ShrinkWork) (q : Result Acted StoreFault) (y : Acted) → IfOk q (λ z. z ≡ y) → ComesFurther w y.turned → IfOk q (λ z. ComesFurther w z.turned)
further_so w (Ok z) y e h = subst (λ (a : Acted). ComesFurther w a.turned) (sym e) h
further_so w (Err f) y e h = tt

pub stepped_further : {D : Type 0} (meaning : Meaning D) (sh : Shape) (R : List Record) (w : ShrinkWork) (s : Shrink) (step : ShrinkStep) (n : ℕ) (compact : Bool) (name : List ℕ) (own : Option ℕ) (a b : Held D) (q : Result Acted StoreFault) → HasStepped meaning sh R a b w.shrink s step
    → IfOk q (λ z. z ≡ step_told (after_step step s w.moved n) compact name own) → IfOk q (λ z. ComesFurther w z.turned)
stepped_further meaning sh R w s step n compact name own a b q h is =
    further_so w q (step_told (after_step step s w.moved n) compact name own) is
    (subst (λ (z : ShrinkStep). ComesFurther w (step_told (after_step z s w.moved n) compact name own).turned) (sym h.answer_is)
    (subst (λ (z : Shrink). ComesFurther w (step_told (after_step (step_answer R h.next) z w.moved n) compact name own).turned) (sym h.shrink_is) (comes_further R w h.next n compact name own)))

not_further : (w : ShrinkWork) (f : ShrinkFault) (own : Option ℕ) → IfOk (not_shrunk f own) (λ z. ComesFurther w z.turned)
not_further w faults.MovementOff own = tt
not_further w (faults.ShrinkBusy v) own = tt
not_further w (faults.UndoFull hs) own = tt
not_further w (faults.Store f) own = tt

pub unstepped_further : (w : ShrinkWork) (f : ShrinkFault) (own : Option ℕ) (q : Result Acted StoreFault) → q ≡ not_shrunk f own → IfOk q (λ z. ComesFurther w z.turned)
unstepped_further w f own q e = subst (λ (r : Result Acted StoreFault). IfOk r (λ z. ComesFurther w z.turned)) (sym e) (not_further w f own)
