-- A repair between its events: which blocks of its list are left, and what became of those before them. Oracle:
-- DBMS_REPAIR.SEGMENT_FIX_STATUS; that a repair settles one block an event is this engine's own.
use Rattle.std.specs.Prelude.{◌≡◌, ℕ, suc, ◌≤◌, Bool, true, false, cond, not, eqb, List, [], ◌∷◌, ◌++◌, length, Option, Some}
use Rattle.seg_words.specs.Types.{Shape, class_code}
use Rattle.redo_model.specs.Records.{Record}
use Rattle.redo_model.specs.Model.{table_named, kept_class, class_of_block, pctfree_of}
use Rattle.redo_laws.specs.Among.{is_in}
use Rattle.redo_laws.specs.Scan.{scan_list}
use Rattle.script_text.specs.declared.statement.Statement.{Statement}
use Rattle.script_text.specs.declared.statement.Statement.TheVariants as asked
use Rattle.history_model.specs.declared.history.Settled.{Settled}
use Rattle.history_model.specs.Spans.{Span}
use Rattle.history_model.specs.SoFar.{IsIdle}
use Rattle.history_model.specs.TableMeans.{Settles, IsSettled, IsReleased, count_changed, RepairMeans}
use Rattle.history_laws.specs.Working.{later}
use Rattle.scan_laws.specs.Staying.{is_released_since}

-- its table, the blocks that are left, those that it settled, both in order of position, and how many of these got another kept
-- class
pub record RepairWork : Type 0 where
  pub obj : ℕ
  pub left : List ℕ
  pub settled : List Settled
  pub changed : ℕ

-- Of all the blocks these are left, and come no sooner than after the first n records. Each block before them was settled, one
-- after the other, or had been released before its event.
pub data Repairs (sh : Shape) (B E : List Record) (o : ℕ) (all : List ℕ) : ℕ → List ℕ → List Settled → Type 0 where
  repairs_none : Repairs sh B E o all (length B) all []
  repairs_one : (n m b : ℕ) (bs : List ℕ) (s : Settled) (ss ts : List Settled) → m ≡ s.after → ts ≡ ss ++ s ∷ [] → IsSettled sh B E o n b s → Repairs sh B E o all n (b ∷ bs) ss → Repairs sh B E o all m bs ts
  repairs_past : (n m b : ℕ) (bs : List ℕ) (ss : List Settled) → IsReleased sh B E o n b m → Repairs sh B E o all n (b ∷ bs) ss → Repairs sh B E o all m bs ss

pub record RepairStands (sh : Shape) (x : Span) (name : List ℕ) (k : RepairWork) : Type 0 where
  pub table : table_named x.begun name ≡ Some k.obj
  pub idle : IsIdle x
  pub reached : ℕ
  pub within : reached ≤ length x.ended
  pub each : Repairs sh x.begun x.ended k.obj (scan_list sh x.begun k.obj) reached k.left k.settled
  pub count : k.changed ≡ count_changed x.ended k.settled

-- the work of this statement
abbrev pub RepairFits : Shape → Span → Option Statement → RepairWork → Type 0
RepairFits sh x (Some (asked.Repair name)) k = RepairStands sh x name k
RepairFits sh x st k = ⊥

-- ---- its steps

-- it begins with all the blocks of its list
abbrev pub RepairsBegin : Type 0
RepairsBegin = (sh : Shape) (x : Span) (name : List ℕ) (o : ℕ) → x.ended ≡ x.begun → table_named x.begun name ≡ Some o → RepairStands sh x name (record { obj = o; left = scan_list sh x.begun o; settled = []; changed = 0 })

-- its next block was settled now, and had not been released
pub record SettlesNext (sh : Shape) (x : Span) (o b : ℕ) (R : List Record) : Type 0 where
  pub there : is_released_since sh (length x.begun) x.ended o b ≡ false
  pub adds : Settles b x.ended R
  pub exact : kept_class R b ≡ class_of_block R (pctfree_of R o) b

abbrev pub settled_now : List Record → List Record → ℕ → Settled
settled_now Q R b = record { block = b; before = length Q; after = length R }

-- whether its kept class is another one now
abbrev pub is_changed : List Record → List Record → ℕ → Bool
is_changed Q R b = not (eqb (class_code (kept_class Q b)) (class_code (kept_class R b)))

-- one more, where it is
abbrev pub counted : Bool → ℕ → ℕ
counted y n = cond y (suc n) n

abbrev pub RepairsSettle : Type 0
RepairsSettle =
    (sh : Shape) (x : Span) (name : List ℕ) (k : RepairWork) (b : ℕ) (bs : List ℕ) (R : List Record) → k.left ≡ b ∷ bs → SettlesNext sh x k.obj b R → RepairStands sh x name k
    → RepairStands sh (later x R) name (record { obj = k.obj; left = bs; settled = k.settled ++ settled_now x.ended R b ∷ []; changed = counted (is_changed x.ended R b) k.changed })

-- or it had been released
abbrev pub RepairsPass : Type 0
RepairsPass =
    (sh : Shape) (x : Span) (name : List ℕ) (k : RepairWork) (b : ℕ) (bs : List ℕ) → k.left ≡ b ∷ bs → is_released_since sh (length x.begun) x.ended k.obj b ≡ true → RepairStands sh x name k → RepairStands sh x name (record { obj = k.obj; left = bs; settled = k.settled; changed = k.changed })

-- with none left it means what its entry says
abbrev pub RepairsMean : Type 0
RepairsMean = (sh : Shape) (x : Span) (name : List ℕ) (k : RepairWork) → k.left ≡ [] → RepairStands sh x name k → RepairMeans sh x name k.changed k.settled

-- a block that is left is one of all
abbrev pub LeftAreListed : Type 0
LeftAreListed = (sh : Shape) (B E : List Record) (o : ℕ) (all : List ℕ) (n : ℕ) (left : List ℕ) (ss : List Settled) → Repairs sh B E o all n left ss → (b : ℕ) → is_in b left ≡ true → is_in b all ≡ true
