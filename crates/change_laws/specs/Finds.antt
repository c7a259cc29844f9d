-- Where a search finds a row: in one slot of one row block of its table, exactly where the row is seen at all commits; and
-- what it keeps of the place is what a later look is compared with.
use Rattle.std.specs.Prelude.{◌≡◌, ℕ, List, ◌∷◌, Option, Some}
use Rattle.seg_words.specs.Types.{Shape, Rowid, UndoAddr}
use Rattle.redo_model.specs.Records.{Record}
use Rattle.redo_model.specs.Model.{effect_of, commit_count, view, IsTable, IsRowBlock, number_or_zero, AreAllowed}
use Rattle.redo_laws.specs.Stays.{IsNotOf}
use Rattle.redo_laws.specs.Views.{Gives}
use Rattle.change_laws.specs.Drafts.{Apart}
use Rattle.change_laws.specs.Ready.{IsOwn, StandsAt}
use Rattle.change_laws.specs.Looks.{now_at, row_now, IsBornAt, WasFound}

-- the incarnation of the extent in which a block stands: one, and no other
pub record BornOf (sh : Shape) (R : List Record) (o b : ℕ) : Type 0 where
  pub born : ℕ
  pub at : IsBornAt sh R o b born
  pub only : (x : ℕ) → IsBornAt sh R o b x → x ≡ born

abbrev pub RowBlocksAreBorn : Type 0
RowBlocksAreBorn = (sh : Shape) (R : List Record) (o b : ℕ) → AreAllowed sh R → IsTable R o → IsRowBlock sh R o b → BornOf sh R o b

pub record FoundOnce (sh : Shape) (R : List Record) (own : Option ℕ) (o n : ℕ) : Type 0 where
  pub given : (bytes : List ℕ) → view R o (commit_count R) (number_or_zero own) n ≡ Some bytes → Gives sh R o (commit_count R) (number_or_zero own) n bytes
  pub seen : (p : Rowid) (bytes : List ℕ) → IsRowBlock sh R o p.dba → row_now R own p ≡ Some (n, bytes) → view R o (commit_count R) (number_or_zero own) n ≡ Some bytes
  pub once : (p q : Rowid) (x y : List ℕ) → row_now R own p ≡ Some (n, x) → row_now R own q ≡ Some (n, y) → p ≡ q
  pub kept : (p : Rowid) (born : ℕ) (undo : UndoAddr) (bytes : List ℕ) → IsRowBlock sh R o p.dba → IsBornAt sh R o p.dba born → row_now R own p ≡ Some (n, bytes) → (now_at R own p).undo ≡ Some undo
      → WasFound sh R own o n p born undo (commit_count R)

abbrev pub RowsAreFoundOnce : Type 0
RowsAreFoundOnce = (sh : Shape) (R : List Record) (own : Option ℕ) (o n : ℕ) → AreAllowed sh R → IsOwn R own → IsTable R o → FoundOnce sh R own o n

-- the head of a row stands in a row block of the table in which its body does
abbrev pub HeadsAreAtHome : Type 0
HeadsAreAtHome = (sh : Shape) (R : List Record) (o n : ℕ) (head body : Rowid) → AreAllowed sh R → IsTable R o → IsRowBlock sh R o body.dba → StandsAt R n (Apart head body) → IsRowBlock sh R o head.dba

-- a place that was found stays one while own adds nothing
abbrev pub FoundPlacesStay : Type 0
FoundPlacesStay =
    (sh : Shape) (R : List Record) (r : Record) (own : Option ℕ) (o n : ℕ) (p : Rowid) (born : ℕ) (undo : UndoAddr) (start : ℕ) → WasFound sh R own o n p born undo start → IsNotOf (effect_of r) (number_or_zero own)
    → WasFound sh (r ∷ R) own o n p born undo start
