-- The place of a session's row over the records that others add.
use Rattle.std.proofs.Common.{◌≡◌, ◌≢◌, ℕ, List, ◌∷◌, Option, Some, None, sym, subst}
use Rattle.std.specs.Prelude.{MatchOption}
use Rattle.seg_words.specs.Types.{Shape}
use Rattle.redo_record.specs.declared.record.Record.TheVariants as made
use Rattle.redo_model.specs.Records.{Record}
use Rattle.redo_model.specs.Model.{Effect, effect_of, number_or_zero, IsTable, AreAllowed}
use Rattle.redo_laws.specs.Stays.{Later, IsNotOf, not_later, one_later}
use Rattle.session_laws.specs.Sessions.{own_of}
use Rattle.session_laws.proofs.OwnersLaw.{others_leave_sessions}
use Rattle.mark_laws.specs.declared.step.MarkStep.{MarkStep}
use Rattle.mark_laws.specs.declared.step.MarkStep.TheVariants as step
use Rattle.mark_laws.specs.Drafts.{mark_record}
use Rattle.change_laws.specs.Ready.{IsOwn}
use Rattle.place_laws.specs.Located.{IsLocated}
use Rattle.head_laws.proofs.HeadLaw.{located_places_stay}
use Rattle.script_text.specs.declared.statement.Statement.{Statement}
use Rattle.history_model.specs.declared.history.HistoryItem.{HistoryItem}
use Rattle.history_laws.specs.Events.{Goes, goes_none, goes_one}
use Rattle.history_laws.proofs.Frames.{zero_is}
use Rattle.history_laws.proofs.LegalLaw.{adds_of}
use Rattle.session_model.specs.Done.{MayTidy, IsTidied, tidy_none, tidy_one}
use Rattle.row_change.specs.declared.place.Place.{Place}
use Rattle.session_core.specs.declared.session.RowWork.{RowWork}
use Rattle.session_core.specs.declared.session.Doing.{Doing}
use Rattle.session_core.specs.declared.session.Doing.TheVariants as told
use Rattle.session_core.specs.Located.{WasAt, KeepsPlace, KeepsDoing, PlacesStay}

-- a row that is located now
pub located_now : (sh : Shape) (R : List Record) (own : Option ℕ) (o n : ℕ) (p : Place) → IsOwn R own → IsTable R o → IsLocated sh R own o n p.at p.born p.undo p.start p.head → WasAt sh R own o n p
located_now sh R own o n p active table l = record { list = R; later = not_later; own_then = active; table = table; located = l }

-- ---- one more record

place_more : (sh : Shape) (R : List Record) (r : Record) (own : Option ℕ) (o n : ℕ) (q : Option Place) → IsNotOf (effect_of r) (number_or_zero own) → MatchOption q (Unit {0}) (WasAt sh R own o n) → MatchOption q (Unit {0}) (WasAt sh (r ∷ R) own o n)
place_more sh R r own o n None m h = tt
place_more sh R r own o n (Some p) m h = located_places_stay sh R r own o n p.at p.born p.undo p.start p.head h m

pub doing_more : (sh : Shape) (R : List Record) (r : Record) (own : Option ℕ) (d : Doing) → IsNotOf (effect_of r) (number_or_zero own) → KeepsDoing sh R own d → KeepsDoing sh (r ∷ R) own d
doing_more sh R r own (told.OnRow w) m h = place_more sh R r own w.obj w.row w.place m h
doing_more sh R r own d m h = h

pub places_stay : PlacesStay
places_stay sh own d Q R not_later h = h
places_stay sh own d Q S (one_later {R = R} r l m) h = doing_more sh R r own d m (places_stay sh own d Q R l h)

-- ---- a movement of the marks

mark_of_none : (sh : Shape) (R : List Record) (o t : ℕ) (m : MarkStep) → IsNotOf (effect_of (mark_record sh R o m)) t
mark_of_none sh R o t (step.Format b) = tt
mark_of_none sh R o t step.Advance = tt
mark_of_none sh R o t (step.Extend x) = tt

pub marks_keep : (sh : Shape) (R : List Record) (own : Option ℕ) (d : Doing) (o : ℕ) (m : MarkStep) → KeepsDoing sh R own d → KeepsDoing sh (mark_record sh R o m ∷ R) own d
marks_keep sh R own d o m h = doing_more sh R (mark_record sh R o m) own d (mark_of_none sh R o (number_or_zero own) m) h

-- ---- settlings, of whatever session

tidy_of_none : (R : List Record) (r : Record) (t : ℕ) → MayTidy R r → IsNotOf (effect_of r) t
tidy_of_none R (made.Class k) t h = tt
tidy_of_none R (made.Clean c) t h = tt
tidy_of_none R r t h = absurd h

pub settlings_keep_places : (sh : Shape) (Q R : List Record) (own : Option ℕ) (d : Doing) → IsTidied Q R → KeepsDoing sh Q own d → KeepsDoing sh R own d
settlings_keep_places sh Q R own d tidy_none h = h
settlings_keep_places sh Q S own d (tidy_one {R = R} r l m) h = doing_more sh R r own d (tidy_of_none R r (number_or_zero own) m) (settlings_keep_places sh Q R own d l h)

-- ---- an event of another session

pub others_keep_places : (sh : Shape) (scripts : List (List Statement)) (T : List HistoryItem) (v : ℕ) (Q R : List Record) (w : ℕ) (d : Doing) → AreAllowed sh R → v ≢ w → Goes sh scripts T v Q R → KeepsDoing sh Q (own_of Q w) d → KeepsDoing sh R (own_of R w) d
others_keep_places sh scripts T v Q R w d a two goes_none h = h
others_keep_places sh scripts T v Q S w d a two (goes_one {R = R} r g m) h =
    let l = others_leave_sessions sh R r v w a.0 two (adds_of sh scripts T v R r m) in
    let before = others_keep_places sh scripts T v Q R w d a.0 two g h in
    subst (λ (o : Option ℕ). KeepsDoing sh (r ∷ R) o d) (sym l.own) (doing_more sh R r (own_of R w) d (subst (λ t. IsNotOf (effect_of r) t) (zero_is (own_of R w)) l.not_of) before)
