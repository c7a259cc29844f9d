-- How far a walk down a slot goes: its parts of undo stand in the ring, and those of one use of one undo block stand at
-- places that fall, all below the number of parts that a block has at most.
use Rattle.std.specs.Prelude.{◌≡◌, ◌⊎◌, ℕ, suc, ◌*◌, ◌<◌, ◌≤◌, Bool, false, cond, ◌&&◌, eqb, List, [], ◌∷◌, length, Some}
use Rattle.seg_words.specs.Types.{Shape, UndoAddr, MOST_UNDO_PARTS, LEAST_UNDO_BLOCKS}
use Rattle.redo_model.specs.Records.{Record}
use Rattle.redo_model.specs.Model.{commit_count, undo_parts, undo_sequence, current_undo, is_reused, needed_on, Made, makers, counts, AreAllowed}
use Rattle.redo_laws.specs.Chain.{EachMade, IsAmong}
use Rattle.redo_laws.specs.Views.{IsOpen}
use Rattle.version_laws.specs.Pages.{IsInRing}

-- the part is of an earlier use of its block, or stands there
abbrev pub PartKnown : List Record → Made → Type 0
PartKnown R m = (m.part.seq < undo_sequence R m.part.block) ⊎ ((m.part.seq ≡ undo_sequence R m.part.block) × (m.part.nth < length (undo_parts R m.part.block)))

-- older parts of the same use of the same block stand at lower places
abbrev pub Falls : List Made → Type 0
Falls [] = Unit {0}
Falls (m ∷ ms) = EachMade (λ x. x.part.block ≡ m.part.block → x.part.seq ≡ m.part.seq → x.part.nth < m.part.nth) ms × Falls ms

abbrev pub is_present : List Record → Made → Bool
is_present R m = eqb m.part.seq (undo_sequence R m.part.block)

-- how many of the makers have a part in the present use of its block
abbrev pub present_count : List Record → List Made → ℕ
present_count R [] = 0
present_count R (m ∷ ms) = cond (is_present R m) (suc (present_count R ms)) (present_count R ms)

-- and in block u
abbrev pub present_in : List Record → ℕ → List Made → ℕ
present_in R u [] = 0
present_in R u (m ∷ ms) = cond (eqb m.part.block u && is_present R m) (suc (present_in R u ms)) (present_in R u ms)

pub record WalkOf (sh : Shape) (R : List Record) (b k : ℕ) : Type 0 where
  pub known : EachMade (PartKnown R) (makers R b k)
  pub falls : Falls (makers R b k)
  pub places : (u : ℕ) → length (undo_parts R u) ≤ MOST_UNDO_PARTS
  pub in_block : (u : ℕ) → present_in R u (makers R b k) ≤ MOST_UNDO_PARTS
  pub ring : EachMade (λ m. IsInRing sh m.part.block) (makers R b k)
  pub current : (u : ℕ) → current_undo R ≡ Some u → IsInRing sh u
  pub in_all : present_count R (makers R b k) ≤ MOST_UNDO_PARTS * sh.undo

abbrev pub WalksEnd : Type 0
WalksEnd = (sh : Shape) (R : List Record) (b k : ℕ) → LEAST_UNDO_BLOCKS ≤ sh.undo → AreAllowed sh R → WalkOf sh R b k

-- no undo that is needed at all commits was used again, for an active transaction or for none
abbrev pub NowIsReached : Type 0
NowIsReached = (sh : Shape) (R : List Record) (b k s t : ℕ) (a : UndoAddr) → AreAllowed sh R → commit_count R ≤ s → IsOpen R t → IsAmong a (needed_on (λ w u. counts R s t w) (makers R b k)) → is_reused R a ≡ false
