-- Whose table it is: while one session shrinks a table, no other session's statement moves its rows, lowers its marks or changes
-- its row movement.
use Rattle.std.proofs.Common.{◌≡◌, ◌≢◌, ℕ, Bool, true, false, List, ◌∷◌, Option, Some, None, refl, sym, ◌∙◌, ap, subst}
use Rattle.seg_words.specs.Types.{Shape}
use Rattle.redo_record.specs.declared.record.Record.TheVariants as made
use Rattle.redo_model.specs.Records.{Record, MoveRecord, LowerRecord, MovementRecord}
use Rattle.redo_model.specs.Model.{prefix, Extends, table_named, AreAllowed}
use Rattle.redo_model.specs.Lists.{same, more}
use Rattle.script_text.specs.declared.statement.Statement.{Statement}
use Rattle.script_text.specs.declared.statement.Statement.TheVariants as asked
use Rattle.history_model.specs.declared.history.HistoryItem.{HistoryItem}
use Rattle.history_model.specs.History.{IsSession, Task, statement_of, under_way}
use Rattle.history_model.specs.Spans.{Span}
use Rattle.history_model.specs.Causes.{IsShrunkBy}
use Rattle.history_model.specs.Makes.{Makes}
use Rattle.history_laws.specs.Working.{now_of, Work, Scanning, Inserting, OnRow, TakingBack, MoveWork, Shrinking, StoppedWork, Lowering, WorkStands}
use Rattle.history_laws.proofs.Owned.{none_some, same_some}
use Rattle.history_laws.proofs.Frames.{named_more}
use Rattle.session_model.specs.Doings.{Doing, Waiting, Working, Repairing, DoingFits, WorkShrinks, ShrinksOn}
use Rattle.session_model.specs.Sessions.{Session, HasPassed, IsUnder, WayFits, Fits}
use Rattle.session_model.specs.Done.{IsDoneBy, done_none, done_one}
use Rattle.session_model.specs.Worlds.{IsReady, Midway}
use Rattle.session_model.proofs.Keeping.{way_under}

-- ---- names of tables

pub extends_on : (P Q R : List Record) → Extends P Q → Extends Q R → Extends P R
extends_on P Q _ e same = e
extends_on P Q (r ∷ R) e (more _ f) = more r (extends_on P Q R e f)

pub named_later : (sh : Shape) (B R : List Record) (name : List ℕ) (o : ℕ) → Extends B R → AreAllowed sh R → table_named B name ≡ Some o → table_named R name ≡ Some o
named_later sh B _ name o same a h = h
named_later sh B (r ∷ R) name o (more _ e) a h = named_more sh R r name o a.1.kind (named_later sh B R name o e a.0 h)

pub done_extends : (sh : Shape) (scripts : List (List Statement)) (past : List HistoryItem) (w : ℕ) (st : Option Statement) (Q R : List Record) → IsDoneBy sh scripts past w st Q R → Extends Q R
done_extends sh scripts past w st Q R done_none = same
done_extends sh scripts past w st Q S (done_one {R = R} r d m) = more r (done_extends sh scripts past w st Q R d)

-- ---- a shrink that is under way

-- a shrink is at work on the table that it names
pub record Shrinks (x : Span) (name : List ℕ) (d : Doing) : Type 0 where
  pub obj : ℕ
  pub table : table_named x.begun name ≡ Some obj
  pub on : ShrinksOn d obj

work_shrinks : (sh : Shape) (x : Span) (name : List ℕ) (k : Work) → WorkStands sh x (Some (asked.Shrink name true)) k → Shrinks x name (Working k)
work_shrinks sh x name (Shrinking k) h = record { obj = k.obj; table = h.table; on = refl }
work_shrinks sh x name k h = absurd h

work_lowers : (sh : Shape) (x : Span) (name : List ℕ) (k : Work) → WorkStands sh x (Some (asked.Shrink name false)) k → Shrinks x name (Working k)
work_lowers sh x name (Shrinking k) h = record { obj = k.obj; table = h.table; on = refl }
work_lowers sh x name (Lowering k) h = record { obj = k.obj; table = h.table; on = refl }
work_lowers sh x name k h = absurd h

pub shrinks_of : (sh : Shape) (x : Span) (name : List ℕ) (compact : Bool) (d : Doing) → DoingFits sh x (Some (asked.Shrink name compact)) d → Shrinks x name d
shrinks_of sh x name compact Waiting h = absurd h
shrinks_of sh x name true (Working k) h = work_shrinks sh x name k h
shrinks_of sh x name false (Working k) h = work_lowers sh x name k h
shrinks_of sh x name compact (Repairing k) h = absurd h

-- what is at work on a table is a shrink that names it
pub record IsShrinkOf (x : Span) (st : Option Statement) (o : ℕ) : Type 0 where
  pub name : List ℕ
  pub compact : Bool
  pub statement : st ≡ Some (asked.Shrink name compact)
  pub table : table_named x.begun name ≡ Some o

shrinking_told : (sh : Shape) (x : Span) (st : Option Statement) (o : ℕ) (k : MoveWork) → WorkStands sh x st (Shrinking k) → k.obj ≡ o → IsShrinkOf x st o
shrinking_told sh x (Some (asked.Shrink name compact)) o k h e = record { name = name; compact = compact; statement = refl; table = h.table ∙ ap (λ (z : ℕ). Some z) e }
shrinking_told sh x st o k h e = absurd h

lowering_told : (sh : Shape) (x : Span) (st : Option Statement) (o : ℕ) (k : StoppedWork) → WorkStands sh x st (Lowering k) → k.obj ≡ o → IsShrinkOf x st o
lowering_told sh x (Some (asked.Shrink name false)) o k h e = record { name = name; compact = false; statement = refl; table = h.table ∙ ap (λ (z : ℕ). Some z) e }
lowering_told sh x st o k h e = absurd h

work_told : (sh : Shape) (x : Span) (st : Option Statement) (o : ℕ) (k : Work) → WorkStands sh x st k → WorkShrinks k o → IsShrinkOf x st o
work_told sh x st o (Shrinking k) h e = shrinking_told sh x st o k h e
work_told sh x st o (Lowering k) h e = lowering_told sh x st o k h e
work_told sh x st o (Scanning k) h e = absurd e
work_told sh x st o (Inserting k) h e = absurd e
work_told sh x st o (OnRow k) h e = absurd e
work_told sh x st o (TakingBack k) h e = absurd e

pub shrink_told : (sh : Shape) (x : Span) (st : Option Statement) (o : ℕ) (d : Doing) → DoingFits sh x st d → ShrinksOn d o → IsShrinkOf x st o
shrink_told sh x st o Waiting h e = absurd h
shrink_told sh x st o (Working k) h e = work_told sh x st o k h e
shrink_told sh x st o (Repairing k) h e = absurd e

shrink_way : (sh : Shape) (scripts : List (List Statement)) (R : List Record) (T : List HistoryItem) (w : ℕ) (s : Session) (d : Doing) (o : ℕ) → WayFits sh scripts R T w s d → ShrinksOn d o → IsUnder sh scripts R T w s
shrink_way sh scripts R T w s Waiting o h e = absurd e
shrink_way sh scripts R T w s (Working k) o h e = h
shrink_way sh scripts R T w s (Repairing k) o h e = absurd e

-- ---- another session's shrink bars a statement that starts

pub shrink_bars : (sh : Shape) (scripts : List (List Statement)) (R : List Record) (T : List HistoryItem) (x : Span) (name : List ℕ) (v : ℕ) (s : Session) (o : ℕ) → x.scripts ≡ scripts → x.begun ≡ R → v ≢ x.session → under_way x.past v ≡ under_way T v
    → table_named x.begun name ≡ Some o → Fits sh scripts R T v s → ShrinksOn s.doing o → IsShrunkBy x name v
shrink_bars sh scripts R T x name v s o same_scripts begun ne alike table f on =
    let u = shrink_way sh scripts R T v s s.doing o f.way on in
    let y = shrink_told sh (now_of scripts R v u.task) (statement_of scripts v s.told) o s.doing u.fits on in
    record {
      other = ne;
      task = u.task;
      under = alike ∙ u.now;
      its_name = y.name;
      compact = y.compact;
      statement = ap (λ (z : List (List Statement)). statement_of z v u.task.place) same_scripts ∙ (ap (statement_of scripts v) u.place ∙ y.statement);
      obj = o;
      its_table = ap (λ (z : List Record). table_named (prefix z u.task.begins) y.name) begun ∙ y.table;
      table = table;
    }

-- and what bars it is another session's shrink
pub bar_shrinks : (sh : Shape) (scripts : List (List Statement)) (from : ℕ) (R : List Record) (T : List HistoryItem) (x : Span) (name : List ℕ) (v : ℕ) (s : Session) (o : ℕ) → x.scripts ≡ scripts → x.begun ≡ R → under_way x.past v ≡ under_way T v
    → table_named x.begun name ≡ Some o → Fits sh scripts R T v s → IsShrunkBy x name v → ShrinksOn s.doing o
bar_shrinks sh scripts from R T x name v s o same_scripts begun alike table f h =
    let u = way_under sh scripts R T v s s.doing h.task f.way (sym alike ∙ h.under) in
    let is : u.task ≡ h.task = same_some u.task h.task (sym u.now ∙ (sym alike ∙ h.under)) in
    let said : statement_of scripts v s.told ≡ Some (asked.Shrink h.its_name h.compact) =
    ap (statement_of scripts v) (sym u.place ∙ ap (λ (z : Task). z.place) is) ∙ (ap (λ (z : List (List Statement)). statement_of z v h.task.place) (sym same_scripts) ∙ h.statement) in
    let y = shrinks_of sh (now_of scripts R v u.task) h.its_name h.compact s.doing (subst (λ (z : Option Statement). DoingFits sh (now_of scripts R v u.task) z s.doing) said u.fits) in
    let its : table_named (prefix R u.task.begins) h.its_name ≡ Some h.obj = ap (λ (z : Task). table_named (prefix R z.begins) h.its_name) is ∙ (ap (λ (z : List Record). table_named (prefix z h.task.begins) h.its_name) (sym begun) ∙ h.its_table) in
    let one : y.obj ≡ h.obj = same_some y.obj h.obj (sym y.table ∙ its) in
    let two : h.obj ≡ o = same_some h.obj o (sym h.table ∙ table) in
    subst (ShrinksOn s.doing) (one ∙ two) y.on

-- ---- a table that a statement must have for itself

-- a shrink and a change of row movement
abbrev pub asks_alone : Option Statement → Option (List ℕ)
asks_alone (Some (asked.Movement name on)) = Some name
asks_alone (Some (asked.Shrink name compact)) = Some name
asks_alone _ = None

-- the table is there
pub record HasTable (x : Span) (name : List ℕ) : Type 0 where
  pub obj : ℕ
  pub table : table_named x.begun name ≡ Some obj

table_there : (x : Span) (name : List ℕ) (found : Option ℕ) → table_named x.begun name ≡ found → (table_named x.begun name ≡ None → ⊥) → HasTable x name
table_there x name None e h = absurd (h e)
table_there x name (Some o) e h = record { obj = o; table = e }

pub alone_table : (sh : Shape) (x : Span) (st : Option Statement) (name : List ℕ) → asks_alone st ≡ Some name → HasPassed sh x st → HasTable x name
alone_table sh x (Some (asked.Movement n on)) name e h = let f = h.table in subst (HasTable x) (same_some n name e) (table_there x n (table_named x.begun n) refl f)
alone_table sh x (Some (asked.Shrink n compact)) name e h = let f = h.table in subst (HasTable x) (same_some n name e) (table_there x n (table_named x.begun n) refl f)
alone_table sh x st name e h = none_some name _ e

-- no other session shrinks it
pub alone_by : (sh : Shape) (scripts : List (List Statement)) (R0 R : List Record) (T : List HistoryItem) (sessions : ℕ → Session) (labels : List ℕ → Option ℕ) (w : ℕ) (task : Task) (s : Session) (d : Doing) (st : Option Statement) (name : List ℕ) (o v : ℕ) → s.doing ≡ d
    → Midway sh scripts R0 R T sessions labels w task s → IsReady sh (now_of scripts R w task) st d → HasPassed sh (now_of scripts R w task) st → asks_alone st ≡ Some name → table_named (prefix R task.begins) name ≡ Some o → IsSession scripts v → v ≢ w
    → ShrinksOn (sessions v).doing o → ⊥
alone_by sh scripts R0 R T sessions labels w task s Waiting (Some (asked.Movement n on)) name o v e m ready h is table session ne shrinks =
    h.unshrunk v (shrink_bars sh scripts R T (now_of scripts R w task) n v (sessions v) o refl ready ne ((m.first e).others v ne) (ap (table_named (prefix R task.begins)) (same_some n name is) ∙ table) (m.others v session ne) shrinks)
alone_by sh scripts R0 R T sessions labels w task s Waiting (Some (asked.Shrink n compact)) name o v e m ready h is table session ne shrinks =
    h.unshrunk v (shrink_bars sh scripts R T (now_of scripts R w task) n v (sessions v) o refl ready ne ((m.first e).others v ne) (ap (table_named (prefix R task.begins)) (same_some n name is) ∙ table) (m.others v session ne) shrinks)
alone_by sh scripts R0 R T sessions labels w task s Waiting st name o v e m ready h is table session ne shrinks = none_some name _ is
alone_by sh scripts R0 R T sessions labels w task s (Working k) (Some (asked.Movement n on)) name o v e m ready h is table session ne shrinks = ready.1
alone_by sh scripts R0 R T sessions labels w task s (Working k) (Some (asked.Shrink n compact)) name o v e m ready h is table session ne shrinks =
    let y = shrinks_of sh (now_of scripts R w task) n compact (Working k) ready.1 in
    let one : y.obj ≡ o = same_some y.obj o (sym y.table ∙ (ap (table_named (prefix R task.begins)) (same_some n name is) ∙ table)) in
    m.alone v o session ne shrinks (subst (λ (z : Doing). ShrinksOn z o) (sym e) (subst (ShrinksOn (Working k)) one y.on))
alone_by sh scripts R0 R T sessions labels w task s (Working k) st name o v e m ready h is table session ne shrinks = none_some name _ is
alone_by sh scripts R0 R T sessions labels w task s (Repairing k) (Some (asked.Movement n on)) name o v e m ready h is table session ne shrinks = ready.1
alone_by sh scripts R0 R T sessions labels w task s (Repairing k) (Some (asked.Shrink n compact)) name o v e m ready h is table session ne shrinks = ready.1
alone_by sh scripts R0 R T sessions labels w task s (Repairing k) st name o v e m ready h is table session ne shrinks = none_some name _ is

-- ---- records that only one session may add of a table

-- a statement that adds one names the table
pub record NamesTable (R : List Record) (st : Option Statement) (o : ℕ) : Type 0 where
  pub name : List ℕ
  pub asks : asks_alone st ≡ Some name
  pub table : table_named R name ≡ Some o

pub move_names : (sh : Shape) (scripts : List (List Statement)) (past : List HistoryItem) (w : ℕ) (st : Option Statement) (R : List Record) (m : MoveRecord) → Makes sh scripts past w st R (made.Move m) → NamesTable R st m.obj
move_names sh scripts past w (Some (asked.Shrink name compact)) R m h = record { name = name; asks = refl; table = h }
move_names sh scripts past w st R m h = absurd h

pub lower_names : (sh : Shape) (scripts : List (List Statement)) (past : List HistoryItem) (w : ℕ) (st : Option Statement) (R : List Record) (l : LowerRecord) → Makes sh scripts past w st R (made.Lower l) → NamesTable R st l.obj
lower_names sh scripts past w (Some (asked.Shrink name false)) R l h = record { name = name; asks = refl; table = h }
lower_names sh scripts past w st R l h = absurd h

pub movement_names : (sh : Shape) (scripts : List (List Statement)) (past : List HistoryItem) (w : ℕ) (st : Option Statement) (R : List Record) (m : MovementRecord) → Makes sh scripts past w st R (made.Movement m) → NamesTable R st m.obj
movement_names sh scripts past w (Some (asked.Movement name on)) R m h = record { name = name; asks = refl; table = h.table }
movement_names sh scripts past w st R m h = absurd h
