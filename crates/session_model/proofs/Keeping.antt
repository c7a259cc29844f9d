-- What an event of one session leaves of another.
use Rattle.std.proofs.Common.{◌≡◌, ◌≢◌, ℕ, suc, ◌≤◌, Bool, true, false, cond, eqb, List, [], ◌∷◌, ◌++◌, length, Option, Some, None, refl, sym, ◌∙◌, ap, ap₂, subst, le_trans, inl, inr}
use Rattle.seg_words.specs.Types.{Shape, class_code}
use Rattle.redo_model.specs.Records.{Record}
use Rattle.redo_model.specs.Model.{prefix, Extends, AreAllowed}
use Rattle.redo_model.specs.Lists.{same, more}
use Rattle.redo_laws.proofs.lists.Prefixes.{prefix_longer, extends_length}
use Rattle.session_laws.specs.Sessions.{own_backed, own_rows, own_begins}
use Rattle.session_laws.proofs.OwnersLaw.{others_leave_sessions}
use Rattle.script_text.specs.declared.statement.Statement.{Statement}
use Rattle.script_text.specs.declared.statement.Statement.TheVariants as asked
use Rattle.history_model.specs.declared.history.Settled.{Settled}
use Rattle.history_model.specs.declared.history.HistoryItem.{HistoryItem}
use Rattle.history_model.specs.History.{Task, statement_of, session_of, under_way}
use Rattle.history_model.specs.Spans.{Span}
use Rattle.scan_laws.specs.Staying.{is_released_since}
use Rattle.history_model.specs.TableMeans.{Settles, IsSettled, IsReleased, count_changed}
use Rattle.redo_model.specs.Model.{kept_class, class_of_block, pctfree_of}
use Rattle.history_laws.specs.Events.{Goes, goes_none, goes_one}
use Rattle.history_laws.specs.Working.{now_of, Work, Scanning, Inserting, OnRow, TakingBack, Shrinking, Lowering}
use Rattle.history_laws.proofs.LegalLaw.{adds_of}
use Rattle.history_laws.proofs.Owned.{none_some}
use Rattle.history_laws.proofs.Frames.{events_leave_work, events_leave_transactions}
use Rattle.history_laws.proofs.Passes.{first_pass_stays}
use Rattle.history_laws.proofs.Telling.{others_are_told}
use Rattle.session_model.specs.Repairs.{RepairWork, Repairs, repairs_none, repairs_one, repairs_past, RepairStands, RepairFits}
use Rattle.session_model.specs.Doings.{Doing, Waiting, Working, Repairing, DoingFits, work_takes_back, takes_back, SparesDoing, doing_since}
use Rattle.session_model.specs.Sessions.{Session, HasPassed, IsUnder, WayFits, Fits, session_since}

-- ---- what is added

pub goes_extends : (sh : Shape) (scripts : List (List Statement)) (T : List HistoryItem) (v : ℕ) (Q R : List Record) → Goes sh scripts T v Q R → Extends Q R
goes_extends sh scripts T v Q R goes_none = same
goes_extends sh scripts T v Q S (goes_one {R = R} r g m) = more r (goes_extends sh scripts T v Q R g)

backed_later : (sh : Shape) (scripts : List (List Statement)) (T : List HistoryItem) (v : ℕ) (Q R : List Record) (w : ℕ) → AreAllowed sh R → v ≢ w → Goes sh scripts T v Q R → own_backed R w ≡ own_backed Q w
backed_later sh scripts T v Q R w a two goes_none = refl
backed_later sh scripts T v Q S w a two (goes_one {R = R} r g m) = (others_leave_sessions sh R r v w a.0 two (adds_of sh scripts T v R r m)).backed ∙ backed_later sh scripts T v Q R w a.0 two g

rows_later : (sh : Shape) (scripts : List (List Statement)) (T : List HistoryItem) (v : ℕ) (Q R : List Record) (w : ℕ) → AreAllowed sh R → v ≢ w → Goes sh scripts T v Q R → own_rows R w ≡ own_rows Q w
rows_later sh scripts T v Q R w a two goes_none = refl
rows_later sh scripts T v Q S w a two (goes_one {R = R} r g m) = (others_leave_sessions sh R r v w a.0 two (adds_of sh scripts T v R r m)).rows ∙ rows_later sh scripts T v Q R w a.0 two g

begins_later : (sh : Shape) (scripts : List (List Statement)) (T : List HistoryItem) (v : ℕ) (Q R : List Record) (w : ℕ) → AreAllowed sh R → v ≢ w → Goes sh scripts T v Q R → own_begins R w ≡ own_begins Q w
begins_later sh scripts T v Q R w a two goes_none = refl
begins_later sh scripts T v Q S w a two (goes_one {R = R} r g m) = (others_leave_sessions sh R r v w a.0 two (adds_of sh scripts T v R r m)).begins ∙ begins_later sh scripts T v Q R w a.0 two g

-- ---- a repair

settled_later : (sh : Shape) (B E F : List Record) (o n b : ℕ) (s : Settled) → Extends E F → IsSettled sh B E o n b s → IsSettled sh B F o n b s
settled_later sh B E F o n b s e h = record {
  block = h.block;
  order = h.order;
  grows = h.grows;
  within = le_trans h.within (extends_length E F e);
  there = subst (λ (z : List Record). is_released_since sh (length B) z o b ≡ false) before h.there;
  adds = subst (λ (z : List Record). Settles b z (prefix F s.after)) before (subst (λ (z : List Record). Settles b (prefix E s.before) z) after h.adds);
  exact = subst (λ (z : List Record). kept_class z b ≡ class_of_block z (pctfree_of z o) b) after h.exact;
}
  where
    before : prefix E s.before ≡ prefix F s.before
    before = sym (prefix_longer E F s.before e (le_trans h.grows h.within))

    after : prefix E s.after ≡ prefix F s.after
    after = sym (prefix_longer E F s.after e h.within)

released_later : (sh : Shape) (B E F : List Record) (o n b m : ℕ) → Extends E F → IsReleased sh B E o n b m → IsReleased sh B F o n b m
released_later sh B E F o n b m e h = record {
  order = h.order;
  within = le_trans h.within (extends_length E F e);
  released = subst (λ (z : List Record). is_released_since sh (length B) z o b ≡ true) (sym (prefix_longer E F m e h.within)) h.released;
}

-- its kept class is the one that it had
abbrev pub is_same_class : List Record → Settled → Bool
is_same_class E s = eqb (class_code (kept_class (prefix E s.before) s.block)) (class_code (kept_class (prefix E s.after) s.block))

pub repairs_later : (sh : Shape) (B E F : List Record) (o : ℕ) (all : List ℕ) (n : ℕ) (left : List ℕ) (ss : List Settled) → Extends E F → Repairs sh B E o all n left ss → Repairs sh B F o all n left ss
repairs_later sh B E F o all n left ss e repairs_none = repairs_none
repairs_later sh B E F o all m bs ts e (repairs_one n k b cs s ss us p q h r) = repairs_one n m b bs s ss ts p q (settled_later sh B E F o n b s e h) (repairs_later sh B E F o all n (b ∷ bs) ss e r)
repairs_later sh B E F o all m bs ss e (repairs_past n k b cs us h r) = repairs_past n m b bs ss (released_later sh B E F o n b m e h) (repairs_later sh B E F o all n (b ∷ bs) ss e r)

-- how many of them got another kept class is the same
pub count_more : (E : List Record) (ss : List Settled) (s : Settled) → count_changed E (ss ++ s ∷ []) ≡ cond (is_same_class E s) (count_changed E ss) (suc (count_changed E ss))
count_more E [] s = refl
count_more E (t ∷ ss) s = ap (λ (n : ℕ). cond (is_same_class E t) n (suc n)) (count_more E ss s) ∙ turned (is_same_class E t) (is_same_class E s) (count_changed E ss)
  where
    turned : (u v : Bool) (n : ℕ) → cond u (cond v n (suc n)) (suc (cond v n (suc n))) ≡ cond v (cond u n (suc n)) (suc (cond u n (suc n)))
    turned true true n = refl
    turned true false n = refl
    turned false true n = refl
    turned false false n = refl

class_same : (E F : List Record) (s : Settled) → Extends E F → s.before ≤ s.after → s.after ≤ length E → is_same_class F s ≡ is_same_class E s
class_same E F s e grows within =
    ap₂ (λ (Q R : List Record). eqb (class_code (kept_class Q s.block)) (class_code (kept_class R s.block))) (prefix_longer E F s.before e (le_trans grows within)) (prefix_longer E F s.after e within)

pub count_later : (sh : Shape) (B E F : List Record) (o : ℕ) (all : List ℕ) (n : ℕ) (left : List ℕ) (ss : List Settled) → Extends E F → Repairs sh B E o all n left ss → count_changed F ss ≡ count_changed E ss
count_later sh B E F o all n left ss e repairs_none = refl
count_later sh B E F o all m bs ts e (repairs_one n k b cs s ss us p q h r) =
    subst (λ (z : List Settled). count_changed F z ≡ count_changed E z) (sym q)
    (count_more F ss s ∙ (ap₂ (λ (v : Bool) (c : ℕ). cond v c (suc c)) (class_same E F s e h.grows h.within) (count_later sh B E F o all n (b ∷ bs) ss e r) ∙ sym (count_more E ss s)))
count_later sh B E F o all m bs ss e (repairs_past n k b cs us h r) = count_later sh B E F o all n (b ∷ bs) ss e r

repair_later : (sh : Shape) (scripts : List (List Statement)) (T : List HistoryItem) (v : ℕ) (Q R : List Record) (w : ℕ) (task : Task) (name : List ℕ) (k : RepairWork) → AreAllowed sh R → v ≢ w → Goes sh scripts T v Q R → task.begins ≤ length Q
    → RepairStands sh (now_of scripts Q w task) name k → RepairStands sh (now_of scripts R w task) name k
repair_later sh scripts T v Q R w task name k a two g l h =
    let e = goes_extends sh scripts T v Q R g in
    subst (λ (B : List Record). RepairStands sh (span scripts w task B R) name k) (sym (prefix_longer Q R task.begins e l)) (record {
      table = h.table;
      idle = record { own = events_leave_transactions sh scripts T v Q R w a two g ∙ h.idle.own; rows = rows_later sh scripts T v Q R w a two g ∙ h.idle.rows; begins = begins_later sh scripts T v Q R w a two g ∙ h.idle.begins };
      reached = h.reached;
      within = le_trans h.within (extends_length Q R e);
      each = repairs_later sh (prefix Q task.begins) Q R k.obj _ h.reached k.left k.settled e h.each;
      count = h.count ∙ sym (count_later sh (prefix Q task.begins) Q R k.obj _ h.reached k.left k.settled e h.each);
    })
  where
    span : List (List Statement) → ℕ → Task → List Record → List Record → Span
    span scripts w task B E = record { session = w; scripts = scripts; past = task.past; begun = B; ended = E }

repair_fits_later : (sh : Shape) (scripts : List (List Statement)) (T : List HistoryItem) (v : ℕ) (Q R : List Record) (w : ℕ) (task : Task) (st : Option Statement) (k : RepairWork) → AreAllowed sh R → v ≢ w → Goes sh scripts T v Q R → task.begins ≤ length Q
    → RepairFits sh (now_of scripts Q w task) st k → RepairFits sh (now_of scripts R w task) st k
repair_fits_later sh scripts T v Q R w task (Some (asked.Repair name)) k a two g l h = repair_later sh scripts T v Q R w task name k a two g l h
repair_fits_later sh scripts T v Q R w task st k a two g l h = absurd h

-- ---- what a session is doing

doing_later : (sh : Shape) (scripts : List (List Statement)) (T : List HistoryItem) (v : ℕ) (Q R : List Record) (w : ℕ) (task : Task) (st : Option Statement) (d : Doing) → AreAllowed sh R → v ≢ w → Goes sh scripts T v Q R → task.begins ≤ length Q
    → SparesDoing d (length Q) R → DoingFits sh (now_of scripts Q w task) st d → DoingFits sh (now_of scripts R w task) st (doing_since sh (length Q) R d)
doing_later sh scripts T v Q R w task st Waiting a two g l p h = h
doing_later sh scripts T v Q R w task st (Working k) a two g l p h = events_leave_work sh scripts T v Q R w task st k a two g l p h
doing_later sh scripts T v Q R w task st (Repairing k) a two g l p h = repair_fits_later sh scripts T v Q R w task st k a two g l h

pub passed_later : (sh : Shape) (scripts : List (List Statement)) (Q R : List Record) (w : ℕ) (task : Task) (st : Option Statement) → Extends Q R → task.begins ≤ length Q → HasPassed sh (now_of scripts Q w task) st → HasPassed sh (now_of scripts R w task) st
passed_later sh scripts Q R w task None e l h = tt
passed_later sh scripts Q R w task (Some st) e l h = first_pass_stays sh scripts Q R w task st e l h

work_back_same : (sh : Shape) (n : ℕ) (R : List Record) (k : Work) → takes_back (doing_since sh n R (Working k)) ≡ work_takes_back k
work_back_same sh n R (Scanning s) = refl
work_back_same sh n R (Inserting o) = refl
work_back_same sh n R (OnRow k) = refl
work_back_same sh n R (TakingBack t) = refl
work_back_same sh n R (Shrinking k) = refl
work_back_same sh n R (Lowering k) = refl

back_same : (sh : Shape) (n : ℕ) (R : List Record) (d : Doing) → takes_back (doing_since sh n R d) ≡ takes_back d
back_same sh n R Waiting = refl
back_same sh n R (Working k) = work_back_same sh n R k
back_same sh n R (Repairing k) = refl

-- ---- a session

under_later : (sh : Shape) (scripts : List (List Statement)) (T : List HistoryItem) (v : ℕ) (Q R : List Record) (w : ℕ) (s : Session) → AreAllowed sh R → v ≢ w → Goes sh scripts T v Q R → SparesDoing s.doing (length Q) R → IsUnder sh scripts Q T w s
    → IsUnder sh scripts R T w (session_since sh (length Q) R s)
under_later sh scripts T v Q R w s a two g p h =
    let e = goes_extends sh scripts T v Q R g in
    record {
      task = h.task;
      now = h.now;
      place = h.place;
      begins = h.begins;
      within = le_trans h.within (extends_length Q R e);
      passed = passed_later sh scripts Q R w h.task (statement_of scripts w s.told) e h.within h.passed;
      fits = doing_later sh scripts T v Q R w h.task (statement_of scripts w s.told) s.doing a two g h.within p h.fits;
    }

way_later : (sh : Shape) (scripts : List (List Statement)) (T : List HistoryItem) (v : ℕ) (Q R : List Record) (w : ℕ) (s : Session) (d : Doing) → AreAllowed sh R → v ≢ w → Goes sh scripts T v Q R → SparesDoing s.doing (length Q) R → WayFits sh scripts Q T w s d
    → WayFits sh scripts R T w (session_since sh (length Q) R s) (doing_since sh (length Q) R d)
way_later sh scripts T v Q R w s Waiting a two g p h = h
way_later sh scripts T v Q R w s (Working k) a two g p h = under_later sh scripts T v Q R w s a two g p h
way_later sh scripts T v Q R w s (Repairing k) a two g p h = under_later sh scripts T v Q R w s a two g p h

pub others_stay : (sh : Shape) (scripts : List (List Statement)) (T : List HistoryItem) (v : ℕ) (Q R : List Record) (w : ℕ) (s : Session) → AreAllowed sh R → v ≢ w → Goes sh scripts T v Q R → SparesDoing s.doing (length Q) R → Fits sh scripts Q T w s
    → Fits sh scripts R T w (session_since sh (length Q) R s)
others_stay sh scripts T v Q R w s a two g p h = record {
  told = h.told;
  way = way_later sh scripts T v Q R w s s.doing a two g p h.way;
  whole = λ e. backed_later sh scripts T v Q R w a two g ∙ h.whole (sym (back_same sh (length Q) R s.doing) ∙ e);
  place = elim h.place [
    | inl l ↦ inl l
    | inr c ↦ inr (record { waits = ap (doing_since sh (length Q) R) c.waits; none = events_leave_transactions sh scripts T v Q R w a two g ∙ c.none })
  ];
}

-- ---- what another session tells

way_told : (sh : Shape) (scripts : List (List Statement)) (R : List Record) (T : List HistoryItem) (i : HistoryItem) (w : ℕ) (s : Session) (d : Doing) → session_of i ≢ w → WayFits sh scripts R T w s d → WayFits sh scripts R (i ∷ T) w s d
way_told sh scripts R T i w s Waiting ne h = (others_are_told T i w ne).way ∙ h
way_told sh scripts R T i w s (Working k) ne h = record { task = h.task; now = (others_are_told T i w ne).way ∙ h.now; place = h.place; begins = h.begins; within = h.within; passed = h.passed; fits = h.fits }
way_told sh scripts R T i w s (Repairing k) ne h = record { task = h.task; now = (others_are_told T i w ne).way ∙ h.now; place = h.place; begins = h.begins; within = h.within; passed = h.passed; fits = h.fits }

pub others_told : (sh : Shape) (scripts : List (List Statement)) (R : List Record) (T : List HistoryItem) (i : HistoryItem) (w : ℕ) (s : Session) → session_of i ≢ w → Fits sh scripts R T w s → Fits sh scripts R (i ∷ T) w s
others_told sh scripts R T i w s ne h = record { told = h.told ∙ sym (others_are_told T i w ne).count; way = way_told sh scripts R T i w s s.doing ne h.way; whole = h.whole; place = h.place }

-- ---- what is under way

-- a session with a statement under way isn't waiting
pub way_under : (sh : Shape) (scripts : List (List Statement)) (R : List Record) (T : List HistoryItem) (w : ℕ) (s : Session) (d : Doing) (task : Task) → WayFits sh scripts R T w s d → under_way T w ≡ Some task → IsUnder sh scripts R T w s
way_under sh scripts R T w s Waiting task h e = none_some task _ (sym h ∙ e)
way_under sh scripts R T w s (Working k) task h e = h
way_under sh scripts R T w s (Repairing k) task h e = h

-- one that isn't waiting has a statement under way
pub way_busy : (sh : Shape) (scripts : List (List Statement)) (R : List Record) (T : List HistoryItem) (w : ℕ) (s : Session) (d : Doing) → d ≢ Waiting → WayFits sh scripts R T w s d → IsUnder sh scripts R T w s
way_busy sh scripts R T w s Waiting ne h = absurd (ne refl)
way_busy sh scripts R T w s (Working k) ne h = h
way_busy sh scripts R T w s (Repairing k) ne h = h

-- one that waits has none
pub way_waits : (sh : Shape) (scripts : List (List Statement)) (R : List Record) (T : List HistoryItem) (w : ℕ) (s : Session) (d : Doing) → d ≡ Waiting → WayFits sh scripts R T w s d → under_way T w ≡ None
way_waits sh scripts R T w s d e h = subst (WayFits sh scripts R T w s) e h

-- one with none waits
pub way_none : (sh : Shape) (scripts : List (List Statement)) (R : List Record) (T : List HistoryItem) (w : ℕ) (s : Session) (d : Doing) → WayFits sh scripts R T w s d → under_way T w ≡ None → d ≡ Waiting
way_none sh scripts R T w s Waiting h e = refl
way_none sh scripts R T w s (Working k) h e = none_some h.task _ (sym e ∙ h.now)
way_none sh scripts R T w s (Repairing k) h e = none_some h.task _ (sym e ∙ h.now)
