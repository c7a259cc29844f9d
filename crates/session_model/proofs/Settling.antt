-- A settling: its records are of nobody's statement, and leave every session as it was.
use Rattle.std.proofs.Common.{◌≡◌, ◌≢◌, ℕ, suc, ◌≤◌, List, length, drop, Option, None, refl, ◌∙◌, ap, subst, arith, le_refl, inl, sym}
use Rattle.seg_words.specs.Types.{Shape}
use Rattle.redo_record.specs.declared.record.Record.TheVariants as made
use Rattle.redo_model.specs.Records.{Record}
use Rattle.script_text.specs.declared.statement.Statement.{Statement}
use Rattle.history_model.specs.declared.history.HistoryItem.{HistoryItem}
use Rattle.history_model.specs.Released.{Gone, gone_by, or_else, first_gone}
use Rattle.history_laws.specs.Events.{Goes, goes_none, goes_one}
use Rattle.history_laws.specs.Working.{Work, OpenScan, Scanning, Inserting, OnRow, TakingBack, Shrinking, Lowering, marked_since, work_since}
use Rattle.history_laws.specs.Others.{SparesWork, SparesSince}
use Rattle.history_laws.proofs.Frames.{events_leave_transactions}
use Rattle.history_laws.proofs.LegalLaw.{records_are_legal}
use Rattle.history_laws.proofs.Marks.{or_none, first_more, none_since}
use Rattle.session_model.specs.Doings.{Doing, Waiting, Working, Repairing, SparesDoing, doing_since}
use Rattle.session_model.specs.Sessions.{Session, Fits, session_since}
use Rattle.session_model.specs.Done.{MayTidy, IsTidied, tidy_none, tidy_one}
use Rattle.session_model.specs.Laws.{SettlingsKeep}
use Rattle.session_model.proofs.Keeping.{others_stay}
use Rattle.session_model.proofs.Going.{spares_none}

tidy_goes : (sh : Shape) (scripts : List (List Statement)) (T : List HistoryItem) (w : ℕ) (Q R : List Record) → IsTidied Q R → Goes sh scripts T w Q R
tidy_goes sh scripts T w Q R tidy_none = goes_none
tidy_goes sh scripts T w Q S (tidy_one {R = R} (made.Class k) t m) = goes_one (made.Class k) (tidy_goes sh scripts T w Q R t) (inl m)
tidy_goes sh scripts T w Q S (tidy_one {R = R} (made.Clean c) t m) = goes_one (made.Clean c) (tidy_goes sh scripts T w Q R t) m
tidy_goes sh scripts T w Q S (tidy_one {R = R} r t m) = absurd m

tidy_longer : (Q R : List Record) → IsTidied Q R → length Q ≤ length R
tidy_longer Q R tidy_none = le_refl (length Q)
tidy_longer Q S (tidy_one {R = R} r t m) = let l = tidy_longer Q R t in omega (arith, l)

-- it releases nothing

tidy_gone : (sh : Shape) (R : List Record) (r : Record) (o : ℕ) (unread : List ℕ) → MayTidy R r → gone_by sh r o unread ≡ None
tidy_gone sh R (made.Class k) o unread m = refl
tidy_gone sh R (made.Clean c) o unread m = refl
tidy_gone sh R r o unread m = absurd m

none_gone : (sh : Shape) (o : ℕ) (unread : List ℕ) (Q R : List Record) → IsTidied Q R → first_gone sh o unread (length Q) R ≡ None
none_gone sh o unread Q R tidy_none = none_since sh o unread Q
none_gone sh o unread Q S (tidy_one {R = R} r t m) =
    first_more sh o unread (length Q) R r (tidy_longer Q R t) ∙ (ap (λ (g : Option Gone). or_else g (gone_by sh r o unread)) (none_gone sh o unread Q R t) ∙ tidy_gone sh R r o unread m)

scan_same : (sh : Shape) (Q R : List Record) (s : OpenScan) → IsTidied Q R → marked_since sh (length Q) R s ≡ s
scan_same sh Q R s t = ap (with_mark s) (ap (or_else s.mark) (none_gone sh s.obj (drop s.read s.blocks) Q R t) ∙ or_none s.mark)
  where
    with_mark : OpenScan → Option Gone → OpenScan
    with_mark s m = record { obj = s.obj; at = s.at; own = s.own; blocks = s.blocks; read = s.read; rows = s.rows; mark = m }

work_same : (sh : Shape) (Q R : List Record) (k : Work) → IsTidied Q R → work_since sh (length Q) R k ≡ k
work_same sh Q R (Scanning s) t = ap (λ (z : OpenScan). Scanning z) (scan_same sh Q R s t)
work_same sh Q R (Inserting o) t = refl
work_same sh Q R (OnRow k) t = refl
work_same sh Q R (TakingBack x) t = refl
work_same sh Q R (Shrinking k) t = refl
work_same sh Q R (Lowering k) t = refl

doing_same : (sh : Shape) (Q R : List Record) (d : Doing) → IsTidied Q R → doing_since sh (length Q) R d ≡ d
doing_same sh Q R Waiting t = refl
doing_same sh Q R (Working k) t = ap (λ (z : Work). Working z) (work_same sh Q R k t)
doing_same sh Q R (Repairing k) t = refl

pub session_same : (sh : Shape) (Q R : List Record) (s : Session) → IsTidied Q R → session_since sh (length Q) R s ≡ s
session_same sh Q R s t = ap (with_doing s) (doing_same sh Q R s.doing t)
  where
    with_doing : Session → Doing → Session
    with_doing s d = record { told = s.told; begins = s.begins; doing = d }

-- it spares every table

tidy_spares : (R : List Record) (r : Record) (k : Work) → MayTidy R r → SparesWork k r
tidy_spares R (made.Class c) (Shrinking k) m = tt
tidy_spares R (made.Clean c) (Shrinking k) m = tt
tidy_spares R r (Shrinking k) m = absurd m
tidy_spares R (made.Class c) (Lowering k) m = tt
tidy_spares R (made.Clean c) (Lowering k) m = tt
tidy_spares R r (Lowering k) m = absurd m
tidy_spares R r (Scanning k) m = tt
tidy_spares R r (Inserting k) m = tt
tidy_spares R r (OnRow k) m = tt
tidy_spares R r (TakingBack k) m = tt

work_spared : (Q R : List Record) (k : Work) → IsTidied Q R → SparesSince k (length Q) R
work_spared Q R k tidy_none = spares_none k (length Q) Q (le_refl (length Q))
work_spared Q S k (tidy_one {R = R} r t m) = (λ e. tidy_spares R r k m, work_spared Q R k t)

doing_spared : (Q R : List Record) (d : Doing) → IsTidied Q R → SparesDoing d (length Q) R
doing_spared Q R Waiting t = tt
doing_spared Q R (Working k) t = work_spared Q R k t
doing_spared Q R (Repairing k) t = tt

-- so it keeps the whole

other_than : (w : ℕ) → suc w ≢ w
other_than w e = omega (arith, e)

pub settlings_keep : SettlingsKeep
settlings_keep sh scripts R0 Q R T sessions labels lawful tidied h = record {
  legal = records_are_legal sh scripts R0 Q R T 0 lawful (tidy_goes sh scripts T 0 Q R tidied) h.legal;
  fit = λ w session. subst (Fits sh scripts R T w) (session_same sh Q R (sessions w) tidied)
      (others_stay sh scripts T (suc w) Q R w (sessions w) lawful.allowed (other_than w) (tidy_goes sh scripts T (suc w) Q R tidied) (doing_spared Q R (sessions w).doing tidied) (h.fit w session));
  alone = h.alone;
  known = λ v t e. h.known v t (sym (events_leave_transactions sh scripts T (suc v) Q R v lawful.allowed (other_than v) (tidy_goes sh scripts T (suc v) Q R tidied)) ∙ e);
  labelled = h.labelled;
}
