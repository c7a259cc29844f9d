-- An event of a statement that lowers no table, or a settling, marks no scan of another session.
use Rattle.std.proofs.Common.{◌≡◌, ◌≢◌, ℕ, ◌≤◌, List, length, drop, Option, Some, None, refl, sym, ◌∙◌, ap, arith, le_refl}
use Rattle.std.specs.Prelude.{option_map}
use Rattle.seg_words.specs.Types.{Shape}
use Rattle.redo_record.specs.declared.record.Record.TheVariants as made
use Rattle.redo_model.specs.Records.{Record, LowerRecord}
use Rattle.session_laws.specs.Sessions.{own_of}
use Rattle.script_text.specs.declared.statement.Statement.{Statement}
use Rattle.script_text.specs.declared.statement.Statement.TheVariants as asked
use Rattle.history_model.specs.declared.history.HistoryItem.{HistoryItem}
use Rattle.history_model.specs.Makes.{Makes}
use Rattle.history_model.specs.Released.{Gone, gone_by, or_else, first_gone}
use Rattle.history_laws.specs.Working.{Work, OpenScan, Scanning, Inserting, OnRow, TakingBack, Shrinking, Lowering, marked_since, work_since}
use Rattle.history_laws.proofs.Marks.{or_none, first_more, none_since}
use Rattle.session_model.specs.Doings.{Doing, Waiting, Working, Repairing, doing_since}
use Rattle.session_model.specs.Sessions.{Session, session_since}
use Rattle.session_model.specs.Done.{MayDo, IsDoneBy, done_none, done_one, MayTidy, IsTidied, tidy_none, tidy_one}
use Rattle.scan_table.specs.declared.scan.Gone.{Gone as Mark}
use Rattle.scan_table.specs.declared.scan.OpenScan.{OpenScan as TheScan}
use Rattle.scan_table.specs.Places.{place}
use Rattle.scan_table.specs.Standing.{or_mark, unread}
use Rattle.session_core.specs.Marks.{marked_over, told_gone}
use Rattle.session_step.specs.Stages.{AreOthersMarked}

-- ---- nothing is released

-- whatever the store's shape
abbrev pub NoneGone : ℕ → List Record → Type 0
NoneGone n R = (sh : Shape) (o : ℕ) (unread : List ℕ) → first_gone sh o unread n R ≡ None

pub none_gone : (R : List Record) → NoneGone (length R) R
none_gone R sh o unread = none_since sh o unread R

-- a statement that lowers no table
abbrev pub IsNoLowering : Option Statement → Type 0
IsNoLowering (Some (asked.Shrink name compact)) = ⊥
IsNoLowering st = Unit {0}

lowers_none : (sh : Shape) (scripts : List (List Statement)) (past : List HistoryItem) (w : ℕ) (st : Option Statement) (R : List Record) (l : LowerRecord) → IsNoLowering st → Makes sh scripts past w st R (made.Lower l) → ⊥
lowers_none sh scripts past w (Some (asked.Shrink name compact)) R l b h = b
lowers_none sh scripts past w st R l b h = h

gone_none : (sh z : Shape) (scripts : List (List Statement)) (past : List HistoryItem) (w : ℕ) (st : Option Statement) (R : List Record) (r : Record) (o : ℕ) (unread : List ℕ) → IsNoLowering st → MayDo sh scripts past w st R r → gone_by z r o unread ≡ None
gone_none sh z scripts past w st R (made.Lower l) o unread b m = absurd (lowers_none sh scripts past w st R l b m)
gone_none sh z scripts past w st R r o unread b m = refl

done_longer : (sh : Shape) (scripts : List (List Statement)) (past : List HistoryItem) (w : ℕ) (st : Option Statement) (Q R : List Record) → IsDoneBy sh scripts past w st Q R → length Q ≤ length R
done_longer sh scripts past w st Q R done_none = le_refl (length Q)
done_longer sh scripts past w st Q S (done_one {R = R} r d m) = let l = done_longer sh scripts past w st Q R d in omega (arith, l)

pub done_releases_none : (sh : Shape) (scripts : List (List Statement)) (past : List HistoryItem) (w : ℕ) (st : Option Statement) (Q R : List Record) → IsNoLowering st → IsDoneBy sh scripts past w st Q R → NoneGone (length Q) R
done_releases_none sh scripts past w st Q R b done_none z o unread = none_since z o unread Q
done_releases_none sh scripts past w st Q S b (done_one {R = R} r d m) z o unread =
    first_more z o unread (length Q) R r (done_longer sh scripts past w st Q R d)
    ∙ (ap (λ (g : Option Gone). or_else g (gone_by z r o unread)) (done_releases_none sh scripts past w st Q R b d z o unread) ∙ gone_none sh z scripts past w st R r o unread b m)

tidy_gone : (z : Shape) (R : List Record) (r : Record) (o : ℕ) (unread : List ℕ) → MayTidy R r → gone_by z r o unread ≡ None
tidy_gone z R (made.Lower l) o unread m = absurd m
tidy_gone z R r o unread m = refl

tidied_longer : (Q R : List Record) → IsTidied Q R → length Q ≤ length R
tidied_longer Q R tidy_none = le_refl (length Q)
tidied_longer Q S (tidy_one {R = R} r t m) = let l = tidied_longer Q R t in omega (arith, l)

pub tidied_releases_none : (Q R : List Record) → IsTidied Q R → NoneGone (length Q) R
tidied_releases_none Q R tidy_none z o unread = none_since z o unread Q
tidied_releases_none Q S (tidy_one {R = R} r t m) z o unread =
    first_more z o unread (length Q) R r (tidied_longer Q R t)
    ∙ (ap (λ (g : Option Gone). or_else g (gone_by z r o unread)) (tidied_releases_none Q R t z o unread) ∙ tidy_gone z R r o unread m)

-- ---- so each session is as it was

scan_same : (sh : Shape) (n : ℕ) (R : List Record) (s : OpenScan) → NoneGone n R → marked_since sh n R s ≡ s
scan_same sh n R s g = ap (with_mark s) (ap (or_else s.mark) (g sh s.obj (drop s.read s.blocks)) ∙ or_none s.mark)
  where
    with_mark : OpenScan → Option Gone → OpenScan
    with_mark s m = record { obj = s.obj; at = s.at; own = s.own; blocks = s.blocks; read = s.read; rows = s.rows; mark = m }

work_same : (sh : Shape) (n : ℕ) (R : List Record) (k : Work) → NoneGone n R → work_since sh n R k ≡ k
work_same sh n R (Scanning s) g = ap (λ (z : OpenScan). Scanning z) (scan_same sh n R s g)
work_same sh n R (Inserting o) g = refl
work_same sh n R (OnRow k) g = refl
work_same sh n R (TakingBack t) g = refl
work_same sh n R (Shrinking k) g = refl
work_same sh n R (Lowering k) g = refl

doing_same : (sh : Shape) (n : ℕ) (R : List Record) (d : Doing) → NoneGone n R → doing_since sh n R d ≡ d
doing_same sh n R Waiting g = refl
doing_same sh n R (Working k) g = ap (λ (z : Work). Working z) (work_same sh n R k g)
doing_same sh n R (Repairing k) g = refl

pub session_same : (sh : Shape) (n : ℕ) (R : List Record) (s : Session) → NoneGone n R → session_since sh n R s ≡ s
session_same sh n R s g = ap (with_doing s) (doing_same sh n R s.doing g)
  where
    with_doing : Session → Doing → Session
    with_doing s d = record { told = s.told; begins = s.begins; doing = d }

-- ---- and so is each place of a scan

no_mark : (m : Option Mark) → or_mark m None ≡ m
no_mark None = refl
no_mark (Some g) = refl

place_same : (n : ℕ) (R : List Record) (p q : Option TheScan) → NoneGone n R → q ≡ p → q ≡ option_map (marked_over n R) p
place_same n R None q g e = e
place_same n R (Some s) q g e = e ∙ ap (λ (z : TheScan). Some z) (sym (ap (with_mark s) (ap (λ (z : Option Gone). or_mark s.mark (option_map told_gone z)) (g s.shape s.obj (unread s)) ∙ no_mark s.mark)))
  where
    with_mark : TheScan → Option Mark → TheScan
    with_mark s m = record s { mark = m }

pub others_same : (who n : ℕ) (R : List Record) (before after : List (Option TheScan)) → NoneGone n R → ((v : ℕ) → 1 ≤ v → v ≢ who → place v after ≡ place v before) → AreOthersMarked who n R before after
others_same who n R before after g e = λ v from ne. place_same n R (place v before) (place v after) g (e v from ne)

-- ---- a settling leaves each transaction its session's

pub tidied_own : (Q R : List Record) (w : ℕ) → IsTidied Q R → own_of R w ≡ own_of Q w
tidied_own Q R w tidy_none = refl
tidied_own Q S w (tidy_one {R = R} (made.Class k) t m) = tidied_own Q R w t
tidied_own Q S w (tidy_one {R = R} (made.Clean c) t m) = tidied_own Q R w t
tidied_own Q S w (tidy_one {R = R} r t m) = absurd m
