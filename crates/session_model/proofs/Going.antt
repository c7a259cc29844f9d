-- The records that a statement's event adds, as those that an event of its session may add beside what is under way of others.
use Rattle.std.proofs.Common.{◌≡◌, ◌≢◌, ℕ, ◌≤◌, false, Bool, List, [], ◌∷◌, length, Option, Some, refl, sym, ◌∙◌, subst, arith, le_refl, inl, inr, lt-ltb, true≢false}
use Rattle.seg_words.specs.Types.{Shape}
use Rattle.redo_record.specs.declared.record.Record.TheVariants as made
use Rattle.redo_model.specs.Records.{Record, TableRecord, MovementRecord, ClassRecord, MoveRecord, LowerRecord}
use Rattle.redo_model.specs.Model.{prefix, Extends, table_named, AreAllowed}
use Rattle.redo_laws.proofs.lists.Prefixes.{prefix_extends}
use Rattle.script_text.specs.declared.statement.Statement.{Statement}
use Rattle.script_text.specs.declared.statement.Statement.TheVariants as asked
use Rattle.history_model.specs.declared.history.HistoryItem.{HistoryItem}
use Rattle.history_model.specs.History.{IsSession, Task, statement_of}
use Rattle.history_model.specs.Spans.{Span}
use Rattle.history_model.specs.Makes.{Makes}
use Rattle.history_laws.specs.Events.{Does, DoesAlone, MayAdd, Goes, goes_none, goes_one}
use Rattle.history_laws.specs.Working.{now_of, Work, Scanning, Inserting, OnRow, TakingBack, Shrinking, Lowering}
use Rattle.history_laws.specs.Others.{Spares, SparesWork, SparesSince}
use Rattle.history_laws.proofs.Owned.{same_some, ways_are_known}
use Rattle.session_model.specs.Doings.{Doing, Waiting, Working, Repairing, DoingFits, WorkShrinks, ShrinksOn, SparesDoing}
use Rattle.session_model.specs.Sessions.{Session, HasPassed, IsUnder}
use Rattle.session_model.specs.Done.{MayDo, IsDoneBy, done_none, done_one}
use Rattle.session_model.specs.Worlds.{Midway, Acts}
use Rattle.session_model.proofs.Keeping.{way_under}
use Rattle.session_model.proofs.Alone.{extends_on, named_later, done_extends, shrinks_of, alone_table, alone_by, NamesTable, move_names, lower_names, movement_names}

-- ---- what another session's statement under way doesn't make

table_idle : (sh : Shape) (x : Span) (name : List ℕ) (pctfree : ℕ) (d : Doing) → DoingFits sh x (Some (asked.Table name pctfree)) d → ⊥
table_idle sh x name pctfree Waiting h = h
table_idle sh x name pctfree (Working k) h = h
table_idle sh x name pctfree (Repairing k) h = h

no_table : (sh : Shape) (scripts : List (List Statement)) (x : Span) (past : List HistoryItem) (v : ℕ) (st : Option Statement) (d : Doing) (R : List Record) (t : TableRecord) → DoingFits sh x st d → Makes sh scripts past v st R (made.Table t) → ⊥
no_table sh scripts x past v (Some (asked.Table name pctfree)) d R t f m = table_idle sh x name pctfree d f
no_table sh scripts x past v st d R t f m = m

movement_idle : (sh : Shape) (x : Span) (name : List ℕ) (on : Bool) (d : Doing) → DoingFits sh x (Some (asked.Movement name on)) d → ⊥
movement_idle sh x name on Waiting h = h
movement_idle sh x name on (Working k) h = h
movement_idle sh x name on (Repairing k) h = h

no_movement : (sh : Shape) (scripts : List (List Statement)) (x : Span) (past : List HistoryItem) (v : ℕ) (st : Option Statement) (d : Doing) (R : List Record) (m : MovementRecord) → DoingFits sh x st d → Makes sh scripts past v st R (made.Movement m) → ⊥
no_movement sh scripts x past v (Some (asked.Movement name on)) d R t f m = movement_idle sh x name on d f
no_movement sh scripts x past v st d R t f m = m

fix_idle : (sh : Shape) (x : Span) (name : List ℕ) (block : ℕ) (value : Option ℕ) (d : Doing) → DoingFits sh x (Some (asked.Fix name block value)) d → ⊥
fix_idle sh x name block value Waiting h = h
fix_idle sh x name block value (Working k) h = h
fix_idle sh x name block value (Repairing k) h = h

no_class : (sh : Shape) (scripts : List (List Statement)) (x : Span) (past : List HistoryItem) (v : ℕ) (st : Option Statement) (d : Doing) (R : List Record) (k : ClassRecord) → DoingFits sh x st d → Makes sh scripts past v st R (made.Class k) → ⊥
no_class sh scripts x past v (Some (asked.Fix name block value)) d R k f m = fix_idle sh x name block value d f
no_class sh scripts x past v st d R k f m = m

shrinks_that : (sh : Shape) (x : Span) (name : List ℕ) (compact : Bool) (d : Doing) (R : List Record) (p : ℕ) → Extends x.begun R → AreAllowed sh R → DoingFits sh x (Some (asked.Shrink name compact)) d → table_named R name ≡ Some p → ShrinksOn d p
shrinks_that sh x name compact d R p e a f t =
    let y = shrinks_of sh x name compact d f in
    subst (ShrinksOn d) (same_some y.obj p (sym (named_later sh x.begun R name y.obj e a y.table) ∙ t)) y.on

rival_move : (sh : Shape) (scripts : List (List Statement)) (x : Span) (past : List HistoryItem) (v : ℕ) (st : Option Statement) (d : Doing) (R : List Record) (m : MoveRecord) → Extends x.begun R → AreAllowed sh R → DoingFits sh x st d → Makes sh scripts past v st R (made.Move m) → ShrinksOn d m.obj
rival_move sh scripts x past v (Some (asked.Shrink name compact)) d R m e a f h = shrinks_that sh x name compact d R m.obj e a f h
rival_move sh scripts x past v st d R m e a f h = absurd h

rival_lower : (sh : Shape) (scripts : List (List Statement)) (x : Span) (past : List HistoryItem) (v : ℕ) (st : Option Statement) (d : Doing) (R : List Record) (l : LowerRecord) → Extends x.begun R → AreAllowed sh R → DoingFits sh x st d → Makes sh scripts past v st R (made.Lower l) → ShrinksOn d l.obj
rival_lower sh scripts x past v (Some (asked.Shrink name false)) d R l e a f h = shrinks_that sh x name false d R l.obj e a f h
rival_lower sh scripts x past v st d R l e a f h = absurd h

-- ---- in the midst of an event

-- what is known there, with some records added
pub record Here (sh : Shape) (scripts : List (List Statement)) (R0 Q : List Record) (T : List HistoryItem) (sessions : ℕ → Session) (labels : List ℕ → Option ℕ) (w : ℕ) (task : Task) (s : Session) (R : List Record) : Type 0 where
  pub midway : Midway sh scripts R0 Q T sessions labels w task s
  pub passed : HasPassed sh (now_of scripts Q w task) (statement_of scripts w s.told)
  pub later : Extends Q R
  pub allowed : AreAllowed sh R

-- no other session shrinks a table that the statement names
free_of : (sh : Shape) (scripts : List (List Statement)) (R0 Q : List Record) (T : List HistoryItem) (sessions : ℕ → Session) (labels : List ℕ → Option ℕ) (w : ℕ) (task : Task) (s : Session) (R : List Record) (p v : ℕ) → Here sh scripts R0 Q T sessions labels w task s R
    → NamesTable R (statement_of scripts w s.told) p → IsSession scripts v → v ≢ w → ShrinksOn (sessions v).doing p → ⊥
free_of sh scripts R0 Q T sessions labels w task s R p v h n session ne on =
    let t = alone_table sh (now_of scripts Q w task) (statement_of scripts w s.told) n.name n.asks h.passed in
    let e = extends_on (prefix Q task.begins) Q R (prefix_extends Q task.begins) h.later in
    let one : t.obj ≡ p = same_some t.obj p (sym (named_later sh (prefix Q task.begins) R n.name t.obj e h.allowed t.table) ∙ n.table) in
    alone_by sh scripts R0 Q T sessions labels w task s s.doing (statement_of scripts w s.told) n.name t.obj v refl h.midway h.midway.ready h.passed n.asks t.table session ne (subst (ShrinksOn (sessions v).doing) (sym one) on)

-- another session's statement that makes a record is under way
pub record IsRival (sh : Shape) (scripts : List (List Statement)) (Q : List Record) (T : List HistoryItem) (sessions : ℕ → Session) (v : ℕ) (R : List Record) (r : Record) : Type 0 where
  pub session : IsSession scripts v
  pub under : IsUnder sh scripts Q T v (sessions v)
  pub makes : Makes sh scripts under.task.past v (statement_of scripts v (sessions v).told) R r

rival_of : (sh : Shape) (scripts : List (List Statement)) (R0 Q : List Record) (T : List HistoryItem) (sessions : ℕ → Session) (labels : List ℕ → Option ℕ) (w : ℕ) (task : Task) (s : Session) (R : List Record) (v : ℕ) (r : Record) → Here sh scripts R0 Q T sessions labels w task s R → v ≢ w
    → Does sh scripts T v R r → IsRival sh scripts Q T sessions v R r
rival_of sh scripts R0 Q T sessions labels w task s R v r h ne d =
    let known = ways_are_known sh scripts (length R0) Q T v d.task h.midway.legal.told d.now in
    let f = h.midway.others v known.session ne in
    let u = way_under sh scripts Q T v (sessions v) (sessions v).doing d.task f.way d.now in
    let one : d.task ≡ u.task = same_some d.task u.task (sym d.now ∙ u.now) in
    record {
      session = known.session;
      under = u;
      makes = subst (λ (n : ℕ). Makes sh scripts u.task.past v (statement_of scripts v n) R r) u.place (subst (λ (z : Task). Makes sh scripts z.past v (statement_of scripts v z.place) R r) one d.makes);
    }

begun_extends : (Q R : List Record) (n : ℕ) → Extends Q R → Extends (prefix Q n) R
begun_extends Q R n e = extends_on (prefix Q n) Q R (prefix_extends Q n) e

-- a record that the statement may do is one that an event may add
may_add : (sh : Shape) (scripts : List (List Statement)) (R0 Q : List Record) (T : List HistoryItem) (sessions : ℕ → Session) (labels : List ℕ → Option ℕ) (w : ℕ) (task : Task) (s : Session) (R : List Record) (r : Record) → Here sh scripts R0 Q T sessions labels w task s R
    → MayDo sh scripts task.past w (statement_of scripts w s.told) R r → MayAdd sh scripts T w R r
may_add sh scripts R0 Q T sessions labels w task s R r h may = adds r may
  where
    does : (q : Record) → Makes sh scripts task.past w (statement_of scripts w s.told) R q → Does sh scripts T w R q
    does q k = record { task = task; now = h.midway.now; makes = subst (λ (n : ℕ). Makes sh scripts task.past w (statement_of scripts w n) R q) (sym h.midway.place) k }

    rival : (q : Record) (v : ℕ) → v ≢ w → Does sh scripts T v R q → IsRival sh scripts Q T sessions v R q
    rival q v ne d = rival_of sh scripts R0 Q T sessions labels w task s R v q h ne d

    begun : (v : ℕ) (u : Task) → Extends (now_of scripts Q v u).begun R
    begun v u = begun_extends Q R u.begins h.later

    tables : (t : TableRecord) → Makes sh scripts task.past w (statement_of scripts w s.told) R (made.Table t) → DoesAlone sh scripts T w R (made.Table t)
    tables t k = record {
      does = does (made.Table t) k;
      alone = λ v ne d. let y = rival (made.Table t) v ne d in no_table sh scripts (now_of scripts Q v y.under.task) y.under.task.past v (statement_of scripts v (sessions v).told) (sessions v).doing R t y.under.fits y.makes;
    }

    movements : (m : MovementRecord) → Makes sh scripts task.past w (statement_of scripts w s.told) R (made.Movement m) → DoesAlone sh scripts T w R (made.Movement m)
    movements m k = record {
      does = does (made.Movement m) k;
      alone = λ v ne d. let y = rival (made.Movement m) v ne d in no_movement sh scripts (now_of scripts Q v y.under.task) y.under.task.past v (statement_of scripts v (sessions v).told) (sessions v).doing R m y.under.fits y.makes;
    }

    classes : (c : ClassRecord) → Makes sh scripts task.past w (statement_of scripts w s.told) R (made.Class c) → DoesAlone sh scripts T w R (made.Class c)
    classes c k = record {
      does = does (made.Class c) k;
      alone = λ v ne d. let y = rival (made.Class c) v ne d in no_class sh scripts (now_of scripts Q v y.under.task) y.under.task.past v (statement_of scripts v (sessions v).told) (sessions v).doing R c y.under.fits y.makes;
    }

    moves : (m : MoveRecord) → Makes sh scripts task.past w (statement_of scripts w s.told) R (made.Move m) → DoesAlone sh scripts T w R (made.Move m)
    moves m k = record {
      does = does (made.Move m) k;
      alone = λ v ne d.
          let y = rival (made.Move m) v ne d in
          free_of sh scripts R0 Q T sessions labels w task s R m.obj v h (move_names sh scripts task.past w (statement_of scripts w s.told) R m k) y.session ne
          (rival_move sh scripts (now_of scripts Q v y.under.task) y.under.task.past v (statement_of scripts v (sessions v).told) (sessions v).doing R m (begun v y.under.task) h.allowed y.under.fits y.makes);
    }

    lowers : (l : LowerRecord) → Makes sh scripts task.past w (statement_of scripts w s.told) R (made.Lower l) → DoesAlone sh scripts T w R (made.Lower l)
    lowers l k = record {
      does = does (made.Lower l) k;
      alone = λ v ne d.
          let y = rival (made.Lower l) v ne d in
          free_of sh scripts R0 Q T sessions labels w task s R l.obj v h (lower_names sh scripts task.past w (statement_of scripts w s.told) R l k) y.session ne
          (rival_lower sh scripts (now_of scripts Q v y.under.task) y.under.task.past v (statement_of scripts v (sessions v).told) (sessions v).doing R l (begun v y.under.task) h.allowed y.under.fits y.makes);
    }

    adds : (q : Record) → MayDo sh scripts task.past w (statement_of scripts w s.told) R q → MayAdd sh scripts T w R q
    adds (made.Class c) (inl k) = inl k
    adds (made.Class c) (inr k) = inr (classes c k)
    adds (made.Clean c) k = k
    adds (made.Reuse q) k = tt
    adds (made.Extend e) (inl k) = inl k
    adds (made.Extend e) (inr k) = inr (does (made.Extend e) k)
    adds (made.Table t) k = tables t k
    adds (made.Movement m) k = movements m k
    adds (made.Lower l) k = lowers l k
    adds (made.Move m) k = moves m k
    adds (made.FormatBlock f) k = does (made.FormatBlock f) k
    adds (made.Advance a) k = does (made.Advance a) k
    adds (made.Begin g) k = does (made.Begin g) k
    adds (made.Insert x) k = does (made.Insert x) k
    adds (made.Update x) k = does (made.Update x) k
    adds (made.Migrate x) k = does (made.Migrate x) k
    adds (made.Return x) k = does (made.Return x) k
    adds (made.Delete x) k = does (made.Delete x) k
    adds (made.Commit c) k = does (made.Commit c) k
    adds (made.Back b) k = does (made.Back b) k
    adds (made.Ended e) k = does (made.Ended e) k

-- and it spares the table that another session shrinks
spares : (sh : Shape) (scripts : List (List Statement)) (R0 Q : List Record) (T : List HistoryItem) (sessions : ℕ → Session) (labels : List ℕ → Option ℕ) (w : ℕ) (task : Task) (s : Session) (R : List Record) (r : Record) (v o : ℕ) → Here sh scripts R0 Q T sessions labels w task s R
    → MayDo sh scripts task.past w (statement_of scripts w s.told) R r → IsSession scripts v → v ≢ w → ShrinksOn (sessions v).doing o → Spares r o
spares sh scripts R0 Q T sessions labels w task s R (made.Move m) v o h k session ne on =
    λ e. free_of sh scripts R0 Q T sessions labels w task s R m.obj v h (move_names sh scripts task.past w (statement_of scripts w s.told) R m k) session ne (subst (ShrinksOn (sessions v).doing) (sym e) on)
spares sh scripts R0 Q T sessions labels w task s R (made.Lower l) v o h k session ne on =
    λ e. free_of sh scripts R0 Q T sessions labels w task s R l.obj v h (lower_names sh scripts task.past w (statement_of scripts w s.told) R l k) session ne (subst (ShrinksOn (sessions v).doing) (sym e) on)
spares sh scripts R0 Q T sessions labels w task s R (made.Movement m) v o h k session ne on =
    λ e. free_of sh scripts R0 Q T sessions labels w task s R m.obj v h (movement_names sh scripts task.past w (statement_of scripts w s.told) R m k) session ne (subst (ShrinksOn (sessions v).doing) (sym e) on)
spares sh scripts R0 Q T sessions labels w task s R r v o h k session ne on = tt

work_spares : (r : Record) (k : Work) → ((o : ℕ) → WorkShrinks k o → Spares r o) → SparesWork k r
work_spares r (Shrinking k) f = f k.obj refl
work_spares r (Lowering k) f = f k.obj refl
work_spares r (Scanning k) f = tt
work_spares r (Inserting k) f = tt
work_spares r (OnRow k) f = tt
work_spares r (TakingBack k) f = tt

-- ---- an event's records

pub spares_none : (k : Work) (n : ℕ) (R : List Record) → length R ≤ n → SparesSince k n R
spares_none k n [] l = tt
spares_none k n (r ∷ R) l = (λ e. absurd (true≢false (sym (lt-ltb (length R) n l) ∙ e)), spares_none k n R (omega (arith, l)))

none_spared : (d : Doing) (Q : List Record) → SparesDoing d (length Q) Q
none_spared Waiting Q = tt
none_spared (Working k) Q = spares_none k (length Q) Q (le_refl (length Q))
none_spared (Repairing k) Q = tt

-- what they are beside the others
pub record GoesWell (sh : Shape) (scripts : List (List Statement)) (Q : List Record) (T : List HistoryItem) (sessions : ℕ → Session) (w : ℕ) (R : List Record) : Type 0 where
  pub goes : Goes sh scripts T w Q R
  pub spared : (v : ℕ) → IsSession scripts v → v ≢ w → SparesDoing (sessions v).doing (length Q) R

doing_spared : (d : Doing) (n : ℕ) (R : List Record) (r : Record) → SparesDoing d n R → ((o : ℕ) → ShrinksOn d o → Spares r o) → SparesDoing d n (r ∷ R)
doing_spared Waiting n R r h f = tt
doing_spared (Working k) n R r h f = (λ e. work_spares r k f, h)
doing_spared (Repairing k) n R r h f = tt

none_goes : (sh : Shape) (scripts : List (List Statement)) (Q : List Record) (T : List HistoryItem) (sessions : ℕ → Session) (w : ℕ) → GoesWell sh scripts Q T sessions w Q
none_goes sh scripts Q T sessions w = record { goes = goes_none; spared = λ v session ne. none_spared (sessions v).doing Q }

done_goes : (sh : Shape) (scripts : List (List Statement)) (R0 Q : List Record) (T : List HistoryItem) (sessions : ℕ → Session) (labels : List ℕ → Option ℕ) (w : ℕ) (task : Task) (s : Session) (R : List Record) → Midway sh scripts R0 Q T sessions labels w task s
    → HasPassed sh (now_of scripts Q w task) (statement_of scripts w s.told) → AreAllowed sh R → IsDoneBy sh scripts task.past w (statement_of scripts w s.told) Q R → GoesWell sh scripts Q T sessions w R
done_goes sh scripts R0 Q T sessions labels w task s R m p a done_none = none_goes sh scripts Q T sessions w
done_goes sh scripts R0 Q T sessions labels w task s S m p a (done_one {R = R} r d k) =
    let before = done_goes sh scripts R0 Q T sessions labels w task s R m p a.0 d in
    let here : Here sh scripts R0 Q T sessions labels w task s R = record { midway = m; passed = p; later = done_extends sh scripts task.past w (statement_of scripts w s.told) Q R d; allowed = a.0 } in
    record {
      goes = goes_one r before.goes (may_add sh scripts R0 Q T sessions labels w task s R r here k);
      spared = λ v session ne. doing_spared (sessions v).doing (length Q) R r (before.spared v session ne) (λ o on. spares sh scripts R0 Q T sessions labels w task s R r v o here k session ne on);
    }

pub acts_go : (sh : Shape) (scripts : List (List Statement)) (R0 Q : List Record) (T : List HistoryItem) (sessions : ℕ → Session) (labels : List ℕ → Option ℕ) (w : ℕ) (task : Task) (s : Session) (R : List Record) → Midway sh scripts R0 Q T sessions labels w task s
    → AreAllowed sh R → Acts sh (now_of scripts Q w task) (statement_of scripts w s.told) R → GoesWell sh scripts Q T sessions w R
acts_go sh scripts R0 Q T sessions labels w task s R m a x = elim x.passed [
  | inl e ↦ subst (GoesWell sh scripts Q T sessions w) (sym e) (none_goes sh scripts Q T sessions w)
  | inr p ↦ done_goes sh scripts R0 Q T sessions labels w task s R m p a x.done
]
