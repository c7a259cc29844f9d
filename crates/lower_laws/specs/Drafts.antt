-- The Lower of a table, each field given by the list. Oracle Database Administrator's Guide, "Shrinking Database Segments Online":
-- the high water mark goes down and the space above it is released. Which extents are released is this engine's own.
use Rattle.std.specs.Prelude.{ℕ, suc, ◌*◌, min, Bool, cond, ltb, List, [], ◌∷◌, length, map, take, drop}
use Rattle.seg_words.specs.Types.{Shape, EXTENTS_OF_L2}
use Rattle.redo_model.specs.Records.{Record, Lower, LowerRecord}
use Rattle.redo_model.specs.Model.{Extent, extents_of, data_of, low_mark, high_mark, kept_length, header_of, l3_of, best_in_group, all_l2, lowering_count}

-- how many extents a table keeps: the first, and those up to the longest suffix of vacant ones
abbrev pub kept_extents : Shape → List Record → ℕ → ℕ
kept_extents sh R o = suc (kept_length sh R 1 (drop 1 (extents_of R o)))

-- some extent is released
abbrev pub releases : Shape → List Record → ℕ → Bool
releases sh R o = ltb (kept_extents sh R o) (length (extents_of R o))

-- the best of each group of these extents
abbrev pub bests_of : Shape → List Record → List Extent → List ℕ
bests_of sh R es = best_in_group sh R 0 0 es ∷ best_in_group sh R EXTENTS_OF_L2 0 es ∷ best_in_group sh R (2 * EXTENTS_OF_L2) 0 es ∷ []

-- the Lower that leaves table o so many extents
abbrev pub lower_to : Shape → List Record → ℕ → ℕ → LowerRecord
lower_to sh R o kept = record {
  obj = o;
  header = header_of sh (extents_of R o);
  lowering = suc (lowering_count R);
  kept = kept;
  low = min (low_mark R o) (min (high_mark R o) (length (data_of sh 0 (take kept (extents_of R o)))));
  high = min (high_mark R o) (length (data_of sh 0 (take kept (extents_of R o))));
  l2 = all_l2 sh (take kept (extents_of R o));
  l3 = l3_of sh (extents_of R o);
  bests = bests_of sh R (take kept (extents_of R o));
  released = map (λ (e : Extent). e.number) (drop kept (extents_of R o));
}

abbrev pub drafted_lower : Shape → List Record → ℕ → LowerRecord
drafted_lower sh R o = lower_to sh R o (kept_extents sh R o)

-- the list with it, where some extent is released
abbrev pub with_lower : Shape → List Record → ℕ → List Record
with_lower sh R o = cond (releases sh R o) (Lower (drafted_lower sh R o) ∷ R) R
