-- Where slots are at home: what holds a row or leads to one stands in a block of the row's table, and what is vacant holds
-- nothing. So lowering loses no row.
use Rattle.std.specs.Prelude.{◌≡◌, ℕ, true, false, cond, eqb, List, [], ◌∷◌, Some, Contains}
use Rattle.seg_words.specs.Types.{Shape, is_empty, Kind, Head, Body}
use Rattle.redo_model.specs.Records.{Record, Insert}
use Rattle.redo_model.specs.Model.{image, at_place, IsRowBlock, IsVacant, IsFormatted, extent_data, AreAllowed}

abbrev pub table_given : Record → ℕ → ℕ → ℕ
table_given (Insert w) n o = cond (eqb w.row n) w.obj o
table_given _ n o = o

-- the table of row n, by its Insert
abbrev pub row_table : List Record → ℕ → ℕ
row_table [] n = 0
row_table (r ∷ R) n = table_given r n (row_table R n)

pub record HomesOf (sh : Shape) (R : List Record) (b k : ℕ) : Type 0 where
  pub at_home : is_empty (image R b k).kind ≡ false → IsRowBlock sh R (row_table R (image R b k).row) b
  pub vacant : (index x : ℕ) → IsVacant sh R index x → Contains (extent_data sh index x) b → IsFormatted sh R b → is_empty (image R b k).kind ≡ true

abbrev pub SlotsAreAtHome : Type 0
SlotsAreAtHome = (sh : Shape) (R : List Record) (b k : ℕ) → AreAllowed sh R → HomesOf sh R b k

-- slot k of block b names a slot that holds the other part of its row, and is named by it
pub record Names (R : List Record) (other : Kind) (b k : ℕ) : Type 0 where
  pub block : ℕ
  pub slot : ℕ
  pub link : (image R b k).link ≡ Some (at_place block slot)
  pub kind : (image R block slot).kind ≡ other
  pub row : (image R block slot).row ≡ (image R b k).row
  pub back : (image R block slot).link ≡ Some (at_place b k)

-- a head names its body, and a body its head
pub record PairsOf (R : List Record) (b k : ℕ) : Type 0 where
  pub head : (image R b k).kind ≡ Head → Names R Body b k
  pub body : (image R b k).kind ≡ Body → Names R Head b k

abbrev pub HeadsNameBodies : Type 0
HeadsNameBodies = (sh : Shape) (R : List Record) (b k : ℕ) → AreAllowed sh R → PairsOf R b k
