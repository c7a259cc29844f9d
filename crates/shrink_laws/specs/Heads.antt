-- The head and the body of a migrated row stand in different blocks.
use Rattle.std.specs.Prelude.{◌≡◌, ◌≢◌, ℕ, List, Some}
use Rattle.seg_words.specs.Types.{Shape, Head, Rowid}
use Rattle.redo_model.specs.Records.{Record}
use Rattle.redo_model.specs.Model.{image, IsMigrated, AreAllowed}

pub record HeadsApart (R : List Record) : Type 0 where
  pub head : (b k : ℕ) (p : Rowid) → (image R b k).kind ≡ Head → (image R b k).link ≡ Some p → p.dba ≢ b
  pub migrated : (n b k c l : ℕ) → IsMigrated R n b k c l → c ≢ b

abbrev pub HeadsAreApart : Type 0
HeadsAreApart = (sh : Shape) (R : List Record) → AreAllowed sh R → HeadsApart R
