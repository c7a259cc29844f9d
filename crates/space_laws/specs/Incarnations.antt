-- An extent of a table is known by its incarnation: one that a longer list has, and that is no newer than a shorter one, is
-- the extent that the shorter one has at that index.
use Rattle.std.specs.Prelude.{◌≡◌, ℕ, ◌<◌, ◌≤◌, List, length, Some}
use Rattle.redo_model.specs.Records.{Record}
use Rattle.redo_model.specs.Model.{Extends, Extent, extents_of, extent_at}

pub record IncarnationsOf (Q R : List Record) (o : ℕ) : Type 0 where
  pub most : (i : ℕ) (e : Extent) → extent_at (extents_of R o) i ≡ Some e → e.incarnation ≤ length R
  pub rise : (i j : ℕ) (e f : Extent) → extent_at (extents_of R o) i ≡ Some e → extent_at (extents_of R o) j ≡ Some f → i < j → e.incarnation < f.incarnation
  pub old : (i : ℕ) (e : Extent) → extent_at (extents_of R o) i ≡ Some e → e.incarnation ≤ length Q → extent_at (extents_of Q o) i ≡ Some e

abbrev pub IncarnationsTell : Type 0
IncarnationsTell = (Q R : List Record) (o : ℕ) → Extends Q R → IncarnationsOf Q R o
