-- The last event of a shrink that doesn't only compact.
use Rattle.std.proofs.Common.{◌≡◌, ℕ, ◌≤◌, false, List, ◌∷◌, length, Option, Some, None, refl, sym, ◌∙◌, ap, subst, inl, inr, le_refl}
use Rattle.std.specs.Prelude.{Ok, Err}
use Rattle.seg_words.specs.Types.{Shape}
use Rattle.disk_model.specs.Crash.{Meaning}
use Rattle.redo_record.specs.declared.record.Record.TheVariants as made
use Rattle.redo_model.specs.Records.{Record, LowerRecord}
use Rattle.redo_model.specs.Model.{high_mark, IsTable}
use Rattle.session_laws.specs.Sessions.{own_of, own_backed, backed_of}
use Rattle.lower_laws.specs.Drafts.{with_lower}
use Rattle.script_text.specs.declared.statement.Statement.TheVariants as asked
use Rattle.history_text.specs.declared.outcome.Outcome.TheVariants as outcome
use Rattle.history_model.specs.declared.history.Kept.TheVariants as kept
use Rattle.history_model.specs.Spans.{Span}
use Rattle.history_model.specs.Passing.{FirstPass}
use Rattle.history_model.specs.ShrinkMeans.{ShrinkMeans}
use Rattle.history_laws.specs.Working.{later}
use Rattle.history_laws.proofs.Owned.{none_some}
use Rattle.history_laws.proofs.Passes.{accepted_passes, first_later}
use Rattle.history_laws.proofs.Shrinks.{lowers_mean, stays_mean, last_extents_stay}
use Rattle.session_model.specs.Done.{done_none, done_one}
use Rattle.session_model.specs.Worlds.{Acts}
use Rattle.store_core.specs.Store.{Held, IsTrue, SameLoan}
use Rattle.store_core.specs.Survives.{Survives}
use Rattle.store_core.specs.Adding.{Adds}
use Rattle.store_core.specs.Causes.{IsSoundFault}
use Rattle.store_core.specs.declared.fault.StoreFault.{StoreFault}
use Rattle.store_core.specs.declared.fault.StoreFault.TheVariants.{NoMemory}
use Rattle.store_core.specs.declared.lowered.Lowered.{Lowered}
use Rattle.scan_table.specs.declared.scan.OpenScan.{OpenScan}
use Rattle.lowering.specs.Answered.{answer_of, lowered, none_released}
use Rattle.lowering.specs.Means.{HasKept, HasLowered}
use Rattle.lowering.proofs.AnswersLaw.{lowerings_mean}
use Rattle.session_core.specs.declared.session.LowerWork.{LowerWork}
use Rattle.session_core.specs.declared.turned.Turned.TheVariants as turned
use Rattle.session_core.specs.declared.turned.Acted.{Acted}
use Rattle.session_core.specs.Acting.{IsAt, Turns}
use Rattle.session_core.specs.Marks.{AreMarked, HasActedMarking}
use Rattle.session_core.specs.ShrinkWorks.{lower_of}
use Rattle.session_core.specs.ShrinkEvents.{IsLowering, told_shrunk}
use Rattle.session_core.proofs.Calls.{acts_none}
use Rattle.session_core.proofs.MakingTables.{is_table}
use Rattle.session_core.proofs.Marking.{AreTold, kept_marks, lowered_marks, unmarked}

pub table_on : {D : Type 0} (meaning : Meaning D) (x : Span) (name : List ℕ) (own : Option ℕ) (w : LowerWork) (a : Held D) → IsAt meaning x own a → IsLowering a.shape x name w → IsTable x.ended w.obj
table_on meaning x name own w a at r = is_table meaning x own a name w.obj at r.stands.still

-- what it tells means this
shrunk_turns : (sh : Shape) (x : Span) (R : List Record) (name : List ℕ) (own : Option ℕ) (w : LowerWork) (l : Lowered) → FirstPass sh (later x R) (asked.Shrink name false) → ShrinkMeans sh (later x R) name w.moved (length w.skips) w.stop (length l.released) l.high w.skips w.stopped → own_backed R x.session ≡ false → own_of R x.session ≡ own
    → Turns sh x (Some (asked.Shrink name false)) R (told_shrunk w l name own)
shrunk_turns sh x R name own w l f m whole o = record {
  turns = record {
    means = (refl, m);
    passes = accepted_passes sh (later x R) (asked.Shrink name false) (outcome.Shrunk name w.moved (length w.skips) w.stop (length l.released) l.high) (kept.Stopped w.skips w.stopped) refl f;
    whole = whole;
    closed = λ z. none_some _ _ (sym z);
  };
  own = o;
  kept = tt;
}

-- ---- a Lower

lower_backed : (l : LowerRecord) (R : List Record) (o : Option ℕ) → backed_of (made.Lower l ∷ R) o ≡ backed_of R o
lower_backed l R None = refl
lower_backed l R (Some t) = refl

lower_acts : (sh : Shape) (x : Span) (name : List ℕ) (w : LowerWork) (l : LowerRecord) → IsLowering sh x name w → l.obj ≡ w.obj → Acts sh x (Some (asked.Shrink name false)) (made.Lower l ∷ x.ended)
lower_acts sh x name w l r e = record {
  done = done_one (made.Lower l) done_none (r.stands.still ∙ ap (λ (o : ℕ). Some o) (sym e));
  passed = inr r.passed;
}

lower_turns : (sh : Shape) (x : Span) (name : List ℕ) (own : Option ℕ) (w : LowerWork) (l : LowerRecord) → IsLowering sh x name w → l.obj ≡ w.obj → l.high ≡ high_mark (made.Lower l ∷ x.ended) w.obj → own_of x.ended x.session ≡ own
    → Turns sh x (Some (asked.Shrink name false)) (made.Lower l ∷ x.ended) (told_shrunk w (answer_of l) name own)
lower_turns sh x name own w l r e high mine =
    let R = made.Lower l ∷ x.ended in
    shrunk_turns sh x R name own w (answer_of l) (first_later sh x R (asked.Shrink name false) r.passed)
    (subst (λ (n : ℕ). ShrinkMeans sh (later x R) name w.moved (length w.skips) w.stop (length l.released) n w.skips w.stopped) (sym high) (lowers_mean sh x name (lower_of w) l e r.stands))
    (lower_backed l x.ended (own_of x.ended x.session) ∙ r.whole) mine

-- ---- or the last extent stays

kept_turns : (sh : Shape) (x : Span) (name : List ℕ) (own : Option ℕ) (w : LowerWork) → IsLowering sh x name w → HasKept sh x.ended w.obj → own_of x.ended x.session ≡ own
    → Turns sh x (Some (asked.Shrink name false)) x.ended (told_shrunk w (none_released (high_mark x.ended w.obj)) name own)
kept_turns sh x name own w r k mine =
    shrunk_turns sh x x.ended name own w (none_released (high_mark x.ended w.obj)) r.passed (stays_mean sh x name (lower_of w) (last_extents_stay sh x.ended w.obj k.one k.all) r.stands) r.whole mine

-- ---- the event

turns_told : (sh : Shape) (x : Span) (R : List Record) (name : List ℕ) (own : Option ℕ) (w : LowerWork) (l m : Lowered) → l ≡ m → Turns sh x (Some (asked.Shrink name false)) R (told_shrunk w m name own) → Turns sh x (Some (asked.Shrink name false)) R (told_shrunk w l name own)
turns_told sh x R name own w l m e t = subst (λ (z : Lowered). Turns sh x (Some (asked.Shrink name false)) R (told_shrunk w z name own)) (sym e) t

-- the records that stand afterwards are these
acted_marking : {D : Type 0} (meaning : Meaning D) (x : Span) (name : List ℕ) (own : Option ℕ) (R : List Record) (z : Acted) (before after : List (Option OpenScan)) (a b : Held D) (l : Lowered) → IsAt meaning x own a → SameLoan meaning a b → Adds {T = Lowered} meaning x.ended R a b (Ok l) → Acts a.shape x (Some (asked.Shrink name false)) R
    → Turns a.shape x (Some (asked.Shrink name false)) R z → AreMarked (length x.ended) R before after → HasActedMarking meaning x (Some (asked.Shrink name false)) before after a b (Ok z)
acted_marking meaning x name own R z before after a b l at loan adds acts turns marks = record {
  acted = record {
    records = R;
    stands = adds.added;
    acts = acts;
    stable = adds.stable;
    survives = adds.survives;
    time = loan.time x.ended at.stands.list;
    turns = turns;
    sound = tt;
  };
  marks = marks;
}

lowered_acted : {D : Type 0} (meaning : Meaning D) (x : Span) (name : List ℕ) (own : Option ℕ) (w : LowerWork) (l : Lowered) (before after : List (Option OpenScan)) (a b : Held D) → IsAt meaning x own a → IsLowering a.shape x name w → SameLoan meaning a b
    → Adds {T = Lowered} meaning x.ended (with_lower a.shape x.ended w.obj) a b (Ok l) → l ≡ lowered a.shape x.ended w.obj → AreTold w.obj l before after → HasLowered a.shape x.ended w.obj
    → HasActedMarking meaning x (Some (asked.Shrink name false)) before after a b (Ok (told_shrunk w l name own))
lowered_acted meaning x name own w l before after a b at r loan adds is told h =
    let R = made.Lower h.lower ∷ x.ended in
    acted_marking meaning x name own R (told_shrunk w l name own) before after a b l at loan (subst (λ (L : List Record). Adds {T = Lowered} meaning x.ended L a b (Ok l)) h.list adds) (lower_acts a.shape x name w h.lower r h.table)
    (turns_told a.shape x R name own w l (answer_of h.lower) (is ∙ h.answer) (lower_turns a.shape x name own w h.lower r h.table h.high at.own_is)) (lowered_marks w.obj l h.lower x.ended before after h.table (is ∙ h.answer) told)

kept_acted : {D : Type 0} (meaning : Meaning D) (x : Span) (name : List ℕ) (own : Option ℕ) (w : LowerWork) (l : Lowered) (before after : List (Option OpenScan)) (a b : Held D) → IsAt meaning x own a → IsLowering a.shape x name w → SameLoan meaning a b
    → Adds {T = Lowered} meaning x.ended (with_lower a.shape x.ended w.obj) a b (Ok l) → l ≡ lowered a.shape x.ended w.obj → AreTold w.obj l before after → HasKept a.shape x.ended w.obj
    → HasActedMarking meaning x (Some (asked.Shrink name false)) before after a b (Ok (told_shrunk w l name own))
kept_acted meaning x name own w l before after a b at r loan adds is told h =
    let high = high_mark x.ended w.obj in
    acted_marking meaning x name own x.ended (told_shrunk w l name own) before after a b l at loan (subst (λ (L : List Record). Adds {T = Lowered} meaning x.ended L a b (Ok l)) h.list adds) (acts_none a.shape x (Some (asked.Shrink name false)))
    (turns_told a.shape x x.ended name own w l (none_released high) (is ∙ h.answer) (kept_turns a.shape x name own w r h at.own_is)) (kept_marks w.obj high l x.ended before after (is ∙ h.answer) told)

pub ended_acted : {D : Type 0} (meaning : Meaning D) (x : Span) (name : List ℕ) (own : Option ℕ) (w : LowerWork) (l : Lowered) (z : Acted) (before after : List (Option OpenScan)) (a b : Held D) → z ≡ told_shrunk w l name own → IsAt meaning x own a → IsLowering a.shape x name w → SameLoan meaning a b
    → Adds {T = Lowered} meaning x.ended (with_lower a.shape x.ended w.obj) a b (Ok l) → l ≡ lowered a.shape x.ended w.obj → AreTold w.obj l before after → HasActedMarking meaning x (Some (asked.Shrink name false)) before after a b (Ok z)
ended_acted meaning x name own w l z before after a b e at r loan adds is told =
    subst (λ (y : Acted). HasActedMarking meaning x (Some (asked.Shrink name false)) before after a b (Ok y)) (sym e)
    (elim (lowerings_mean a.shape x.ended w.obj at.stands.lawful (table_on meaning x name own w a at r)) [
      | inl h ↦ lowered_acted meaning x name own w l before after a b at r loan adds is told h
      | inr h ↦ kept_acted meaning x name own w l before after a b at r loan adds is told h
    ])

-- nothing is added

unmarked_acted : {D : Type 0} (meaning : Meaning D) (x : Span) (name : List ℕ) (f : StoreFault) (before : List (Option OpenScan)) (a b : Held D) → IsTrue meaning x.ended b → a.log.stable ≤ b.log.stable → ((since : ℕ) (needed : ℕ → ℕ) → Survives meaning since needed x.ended a → Survives meaning since needed x.ended b)
    → meaning.clock a.disk ≤ meaning.clock b.disk → IsSoundFault f → HasActedMarking meaning x (Some (asked.Shrink name false)) before before a b (Err f)
unmarked_acted meaning x name f before a b stands stable survives time sound = record {
  acted = record {
    records = x.ended;
    stands = stands;
    acts = acts_none a.shape x (Some (asked.Shrink name false));
    stable = stable;
    survives = survives;
    time = time;
    turns = tt;
    sound = sound;
  };
  marks = unmarked x.ended before;
}

pub unended_acted : {D : Type 0} (meaning : Meaning D) (x : Span) (name : List ℕ) (own : Option ℕ) (w : LowerWork) (f : StoreFault) (before : List (Option OpenScan)) (a b : Held D) → IsAt meaning x own a → SameLoan meaning a b → Adds {T = Lowered} meaning x.ended (with_lower a.shape x.ended w.obj) a b (Err f)
    → HasActedMarking meaning x (Some (asked.Shrink name false)) before before a b (Err f)
unended_acted meaning x name own w f before a b at loan adds = unmarked_acted meaning x name f before a b adds.refused adds.stable adds.survives_refused (loan.time x.ended at.stands.list) (adds.sound at.unspent)

pub memory_acted : {D : Type 0} (meaning : Meaning D) (x : Span) (name : List ℕ) (own : Option ℕ) (before : List (Option OpenScan)) (s : Held D) → IsAt meaning x own s → HasActedMarking meaning x (Some (asked.Shrink name false)) before before s s (Err NoMemory)
memory_acted meaning x name own before s at = unmarked_acted meaning x name NoMemory before s s at.stands (le_refl _) (λ since needed h. h) (le_refl _) tt
