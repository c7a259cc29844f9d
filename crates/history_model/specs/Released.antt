-- Which extent with an unread block of a scan's list was released first, and by which lowering: why a scan stops. Oracle: error
-- ORA-08103, "object no longer exists"; that a scan stops as soon as an unread extent is released is this engine's own.
use Rattle.std.specs.Prelude.{ℕ, Bool, false, cond, ◌||◌, eqb, ltb, min, List, [], ◌∷◌, length, Option, Some, None}
use Rattle.seg_words.specs.Types.{Shape}
use Rattle.redo_model.specs.Records.{Record, Lower}
use Rattle.redo_model.specs.Model.{in_extent}

pub record Gone : Type 0 where
  pub extent : ℕ
  pub lowering : ℕ

-- extent x has one of these blocks
abbrev pub has_any : Shape → ℕ → List ℕ → Bool
has_any sh x [] = false
has_any sh x (b ∷ bs) = in_extent sh x b || has_any sh x bs

abbrev pub least_with : ℕ → Option ℕ → Option ℕ
least_with x None = Some x
least_with x (Some y) = Some (min x y)

-- the least of these extents that has one of the blocks
abbrev pub least_having : Shape → List ℕ → List ℕ → Option ℕ
least_having sh unread [] = None
least_having sh unread (x ∷ xs) = cond (has_any sh x unread) (least_with x (least_having sh unread xs)) (least_having sh unread xs)

abbrev pub gone_with : ℕ → Option ℕ → Option Gone
gone_with lowering None = None
gone_with lowering (Some x) = Some (record { extent = x; lowering = lowering })

-- what a record releases of table o that has one of the blocks: of the extents of one lowering the least
abbrev pub gone_by : Shape → Record → ℕ → List ℕ → Option Gone
gone_by sh (Lower l) o unread = cond (eqb l.obj o) (gone_with l.lowering (least_having sh unread l.released)) None
gone_by sh _ o unread = None

abbrev pub or_else : Option Gone → Option Gone → Option Gone
or_else None g = g
or_else (Some x) g = Some x

-- What was released first of table o, after the first n records, that has one of the blocks. An extent that the table had then
-- is released once before the table can have it again, so it is meant in the incarnation that it had then.
abbrev pub first_gone : Shape → ℕ → List ℕ → ℕ → List Record → Option Gone
first_gone sh o unread n [] = None
first_gone sh o unread n (r ∷ R) = cond (ltb (length R) n) None (or_else (first_gone sh o unread n R) (gone_by sh r o unread))
