-- What the writer in an image, and the state of its transaction, tell of whether the image counts at a commit number. A
-- commit number as the writer says it by itself. A transaction as the writer made the image: it is active, or it has
-- committed, since what it made is gone where it was rolled back; and of a forgotten one it is known from the control number
-- on that it counts.
use Rattle.std.specs.Prelude.{◌≡◌, ℕ, ◌≤◌, true, false, eqb, leb, List, [], ◌∷◌, Some}
use Rattle.seg_words.specs.Types.{Shape, Slot, By, At}
use Rattle.redo_model.specs.Records.{Record}
use Rattle.redo_model.specs.Model.{is_active, commit_number, has_rolled_back, control_number, is_forgotten, image, Made, makers, counts, AreAllowed}
use Rattle.redo_laws.specs.Chain.{EachMade}
use Rattle.redo_laws.specs.Views.{IsOpen}

-- an image and the record that made it
pub record WriterTells (R : List Record) (s t : ℕ) (i : Slot) (m : Made) : Type 0 where
  pub at : (c : ℕ) → i.writer ≡ At c → counts R s t m.by ≡ leb c s
  pub by : (u : ℕ) → i.writer ≡ By u → m.by ≡ By u

-- each image but the last with its record
abbrev pub EachTells : List Record → ℕ → ℕ → Slot → List Made → Type 0
EachTells R s t i [] = Unit {0}
EachTells R s t i (m ∷ ms) = WriterTells R s t i m × EachTells R s t m.old ms

-- a transaction that made an image of the slot
pub record TxnTells (R : List Record) (s t u : ℕ) : Type 0 where
  pub active : is_active R u ≡ true → counts R s t (By u) ≡ eqb u t
  pub committed : (c : ℕ) → commit_number R u ≡ Some c → counts R s t (By u) ≡ leb c s
  pub forgotten : is_forgotten R u ≡ true → control_number R ≤ s → counts R s t (By u) ≡ true
  pub not_back : has_rolled_back R u ≡ false

pub record WritersTell (R : List Record) (s t b k : ℕ) : Type 0 where
  pub images : EachTells R s t (image R b k) (makers R b k)
  pub txns : EachMade (λ m. (u : ℕ) → m.by ≡ By u → TxnTells R s t u) (makers R b k)

-- for an active transaction t, or none
abbrev pub WritersAreTold : Type 0
WritersAreTold = (sh : Shape) (R : List Record) (s t b k : ℕ) → AreAllowed sh R → IsOpen R t → WritersTell R s t b k
