-- Where the walk down a slot's images ends, at a commit number for a transaction: at the first image that counts, at the
-- first part of undo on the way that was reused, or at an image of a forgotten transaction of which it isn't known whether
-- it counts. Oracle Database Concepts, "Multiversion Read Consistency" and "Undo Segments" (snapshot too old); the address
-- of a part and the control number are this engine's own.
use Rattle.std.specs.Prelude.{◌≡◌, ℕ, ◌<◌, ◌≤◌, Bool, false, cond, not, ◌&&◌, eqb, ltb, List, [], ◌∷◌}
use Rattle.seg_words.specs.Types.{Shape, Slot, UndoAddr, Writer, By, At}
use Rattle.redo_model.specs.Records.{Record}
use Rattle.redo_model.specs.Model.{commit_count, IsForgotten, is_forgotten, control_number, image, is_reused, IsReused, IsNeeded, IsReached, Made, makers, counts, image_at, AreAllowed}
use Rattle.redo_laws.specs.Views.{IsOpen}

-- the writer is a forgotten transaction, other than t, whose commit number may be above s
abbrev pub is_unknown : List Record → ℕ → ℕ → Writer → Bool
is_unknown R s t (By u) = not (eqb u t) && (is_forgotten R u && ltb s (control_number R))
is_unknown R s t (At c) = false

-- the transaction that a writer names, 0 for none
abbrev pub named_by : Writer → ℕ
named_by (By u) = u
named_by (At c) = 0

pub data ChainEnd : Type 0 where
  Found : Slot → ChainEnd
  Lost : UndoAddr → ChainEnd
  Unknown : ℕ → ChainEnd

-- from an image down, of which these are the makers
abbrev pub end_from : List Record → ℕ → ℕ → Slot → List Made → ChainEnd
end_from R s t i [] = Found i
end_from R s t i (m ∷ ms) = cond (is_unknown R s t i.writer) (Unknown (named_by i.writer)) (cond (counts R s t m.by) (Found i) (cond (is_reused R m.part) (Lost m.part) (end_from R s t m.old ms)))

-- from the image that stands in slot k of block b
abbrev pub chain_end : List Record → ℕ → ℕ → ℕ → ℕ → ChainEnd
chain_end R b k s t = end_from R s t (image R b k) (makers R b k)

-- a part that is needed in the block was reused
pub record IsTooOld (R : List Record) (b s t : ℕ) (a : UndoAddr) : Type 0 where
  pub needed : IsNeeded R b s t a
  pub reused : IsReused R a

-- an image that is reached in the block names a transaction that is forgotten, and the control number is above s
pub record IsTooOldEntry (R : List Record) (b s t u : ℕ) : Type 0 where
  pub image : Slot
  pub reached : IsReached R b s t image
  pub names : image.writer ≡ By u
  pub forgotten : IsForgotten R u
  pub above : s < control_number R

abbrev pub EndMeans : List Record → ℕ → ℕ → ℕ → ℕ → ChainEnd → Type 0
EndMeans R b k s t (Found i) = i ≡ image_at R b k s t
EndMeans R b k s t (Lost a) = IsTooOld R b s t a
EndMeans R b k s t (Unknown u) = IsTooOldEntry R b s t u

-- this is so in every list
abbrev pub ChainsEnd : Type 0
ChainsEnd = (R : List Record) (b k s t : ℕ) → EndMeans R b k s t (chain_end R b k s t)

-- at all commits, for an active transaction or for none, the walk always finds its image: what updates rest on
abbrev pub NowIsFound : Type 0
NowIsFound = (sh : Shape) (R : List Record) (b k s t : ℕ) → AreAllowed sh R → commit_count R ≤ s → IsOpen R t → chain_end R b k s t ≡ Found (image_at R b k s t)
