-- Where rows are, and what a step, a taking back and a formatting need for rows to be in one place each.
use Rattle.std.proofs.Common.{◌≡◌, ℕ, suc, ◌≤◌, Bool, true, false, cond, ◌&&◌, eqb, List, [], ◌∷◌, Option, Some, None}
use Rattle.seg_words.specs.Types.{Shape, Slot, UndoAddr, Writer, By, At}
use Rattle.redo_model.specs.Records.{Record, RowPart, BackRecord}
use Rattle.redo_model.specs.Model.{Step, Effect, effect_of, written, commit_count, txn_count, is_active, is_addr, standing, newest_of, newest_on, holds_row, outcome, placed_in, image, Made, makers, first_counted, row_in, IsAllowed, taken_back}
use Rattle.redo_model.specs.Effects.{Still, Formats, Adds, TakesBack, Cleans}
use Rattle.redo_laws.proofs.lists.Every.{Every}
use Rattle.redo_laws.proofs.steps.OnTop.{is_named}

-- each part states the image that it replaces
abbrev pub StatesOld : List Record → List RowPart → Type 0
StatesOld R [] = Unit {0}
StatesOld R (p ∷ ps) = (p.old ≡ image R p.dba p.slot) × StatesOld R ps

-- which records count: by their writer and undo address
abbrev pub Counted : Type 0
Counted = Writer → UndoAddr → Bool

-- block, slot and bytes of a row
abbrev pub Found : Type 0
Found = ℕ × ℕ × List ℕ

abbrev pub place_of : List RowPart → Option Found
place_of [] = None
place_of (p ∷ ps) = cond (holds_row p.new.kind) (Some (p.dba, p.slot, p.new.bytes)) (place_of ps)

-- where the newest step on row n that counts puts it
abbrev pub located : Counted → List Step → ℕ → Option Found
located c [] n = None
located c (st ∷ ss) n = cond (c st.by st.undo && eqb st.row n) (place_of st.parts) (located c ss n)

-- the row in slot k of block b, for what counts
abbrev pub seen : Counted → List Record → ℕ → ℕ → Option (ℕ × List ℕ)
seen c R b k = row_in (first_counted c (image R b k) (makers R b k))

-- w may write over what v wrote
abbrev pub MayOver : (ℕ → Bool) → Writer → Writer → Type 0
MayOver active w (By u) = active u ≡ true → w ≡ By u
MayOver active w (At m) = Unit {0}

abbrev pub HeadOver : (ℕ → Bool) → Writer → List Made → Type 0
HeadOver active w [] = Unit {0}
HeadOver active w (m ∷ ms) = MayOver active w m.by

abbrev pub BegunBy : ℕ → Writer → Type 0
BegunBy n (By u) = u ≤ n
BegunBy n (At m) = Unit {0}

-- what a step makes of its row is where it puts it
pub record Told (st : Step) : Type 0 where
  pub placed : (bytes : List ℕ) → outcome st ≡ Some bytes → (b : ℕ) × (k : ℕ) × (place_of st.parts ≡ Some (b, k, bytes))
  pub made : (b k : ℕ) (bytes : List ℕ) → place_of st.parts ≡ Some (b, k, bytes) → outcome st ≡ Some bytes

-- a move takes the next commit number, and leaves its row as the newest step on it did
pub record MoveKeeps (R : List Record) (st : Step) (m : ℕ) : Type 0 where
  pub number : m ≡ suc (commit_count R)
  pub last : Step
  pub newest : newest_on (standing R) st.row ≡ Some last
  pub obj : last.obj ≡ st.obj
  pub same : outcome st ≡ outcome last

-- what a step needs
pub record StepFits (R : List Record) (st : Step) : Type 0 where
  pub begun : BegunBy (txn_count R) st.by
  pub old : StatesOld R st.parts
  pub old_rows : Every (λ (p : RowPart). (x : ℕ × List ℕ) → row_in p.old ≡ Some x → x.0 ≡ st.row) st.parts
  pub new_rows : (b k : ℕ) (i : Slot) (x : ℕ × List ℕ) → is_named st.parts b k ≡ true → row_in (placed_in (written st.parts) b k i) ≡ Some x → (x.0 ≡ st.row) × (place_of st.parts ≡ Some (b, k, x.1))
  pub place : (b k : ℕ) (bytes : List ℕ) (i : Slot) → place_of st.parts ≡ Some (b, k, bytes) → (is_named st.parts b k ≡ true) × (row_in (placed_in (written st.parts) b k i) ≡ Some (st.row, bytes))
  pub covers : (last : Step) (b k : ℕ) (bytes : List ℕ) → newest_on (standing R) st.row ≡ Some last → place_of last.parts ≡ Some (b, k, bytes) → is_named st.parts b k ≡ true
  pub row_free : (last : Step) → newest_on (standing R) st.row ≡ Some last → MayOver (is_active R) st.by last.by
  pub slots_free : (b k : ℕ) → is_named st.parts b k ≡ true → HeadOver (is_active R) st.by (makers R b k)
  pub live : (u : ℕ) → st.by ≡ By u → is_active R u ≡ true
  pub kept : (m : ℕ) → st.by ≡ At m → MoveKeeps R st m
  pub obj : (last : Step) → newest_on (standing R) st.row ≡ Some last → last.obj ≡ st.obj
  pub told : Told st
  pub fresh : Every (λ (s : Step). is_addr s.undo st.undo ≡ false) (standing R)

-- what a taking back needs
pub record BackFits (R : List Record) (body : BackRecord) : Type 0 where
  pub active : is_active R body.txn ≡ true
  pub step : Step
  pub newest : newest_of (standing R) body.txn ≡ Some step
  pub undo : body.undo ≡ step.undo
  pub restores : body.parts ≡ taken_back step.parts

abbrev pub HeadSettled : (ℕ → Bool) → List Made → Type 0
HeadSettled active [] = Unit {0}
HeadSettled active (m ∷ ms) = (u : ℕ) → m.by ≡ By u → active u ≡ false

abbrev pub EffectFits : List Record → Effect → Type 0
EffectFits R Still = Unit {0}
EffectFits R (Formats d) = (k : ℕ) → (row_in (image R d k) ≡ None) × HeadSettled (is_active R) (makers R d k)
EffectFits R (Adds st) = StepFits R st
EffectFits R (TakesBack body) = BackFits R body
EffectFits R (Cleans d cs) = Unit {0}

-- each effect of the list fits
abbrev pub IsFit : Shape → List Record → Type 0
IsFit sh [] = Unit {0}
IsFit sh (r ∷ R) = IsFit sh R × EffectFits R (effect_of r) × IsAllowed sh R r

-- each writer that isn't active counts, and with a step of an active one each older step of it
abbrev pub IfSettled : (ℕ → Bool) → Writer → Type 0 → Type 0
IfSettled active (By u) P = active u ≡ false → P
IfSettled active (At m) P = P

abbrev pub SettledCounts : Counted → (ℕ → Bool) → Step → Type 0
SettledCounts c active st = IfSettled active st.by (c st.by st.undo ≡ true)

abbrev pub SameCounts : Counted → Writer → List Step → Type 0
SameCounts c w ss = Every (λ (s : Step). s.by ≡ w → c s.by s.undo ≡ true) ss

abbrev pub IsClosed : Counted → (ℕ → Bool) → List Step → Type 0
IsClosed c active [] = Unit {0}
IsClosed c active (st ∷ ss) = SettledCounts c active st × (c st.by st.undo ≡ true → SameCounts c st.by ss) × IsClosed c active ss

-- each row is seen in the slot where its newest step that counts put it, and nowhere else
pub record EachOnce (c : Counted) (R : List Record) (b k n : ℕ) (bytes : List ℕ) : Type 0 where
  pub found : seen c R b k ≡ Some (n, bytes) → located c (standing R) n ≡ Some (b, k, bytes)
  pub shown : located c (standing R) n ≡ Some (b, k, bytes) → seen c R b k ≡ Some (n, bytes)

-- what the newest step on row n of table o that counts makes of it
abbrev pub newest_outcome : Counted → List Step → ℕ → ℕ → Option (List ℕ)
newest_outcome c [] o n = None
newest_outcome c (st ∷ ss) o n = cond (c st.by st.undo && (eqb st.obj o && eqb st.row n)) (outcome st) (newest_outcome c ss o n)
