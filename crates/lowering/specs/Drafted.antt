-- What of a Lower is read from pages, where so many extents are kept.
use Rattle.std.specs.Prelude.{◌≡◌, ℕ, suc, min, List, [], ◌∷◌, take}
use Rattle.seg_words.specs.Types.{Shape}
use Rattle.redo_model.specs.Records.{Record, LowerRecord}
use Rattle.redo_model.specs.Model.{extents_of, extent_at, l2_at, all_l2, l3_of, best_in_group, lowering_count}
use Rattle.data_places.specs.Places.{data_count}
use Rattle.lower_laws.specs.Drafts.{bests_of}
use Rattle.lowering.specs.declared.ground.Ground.{Ground}
use Rattle.lowering.specs.declared.groups.Group.{Group}
use Rattle.lowering.specs.declared.groups.Groups.{Groups}
use Rattle.lowering.specs.declared.draft.Tops.{Tops}

-- the second level that covers the extents from this index on, where that extent is kept, and its best then
pub record IsGroup (sh : Shape) (R : List Record) (o kept start : ℕ) (g : Group) : Type 0 where
  pub l2 : g.l2 ≡ l2_at sh (extent_at (take kept (extents_of R o)) start)
  pub best : g.best ≡ best_in_group sh R start 0 (take kept (extents_of R o))

abbrev pub all_of : Group → Group → Group → Groups
all_of a b c = record { l2 = a.l2 ∷ b.l2 ∷ c.l2 ∷ []; bests = a.best ∷ b.best ∷ c.best ∷ [] }

-- all three
pub record AreGroups (sh : Shape) (R : List Record) (o kept : ℕ) (g : Groups) : Type 0 where
  pub l2 : g.l2 ≡ all_l2 sh (take kept (extents_of R o))
  pub bests : g.bests ≡ bests_of sh R (take kept (extents_of R o))

-- the third level, and the number of the next lowering
pub record AreTops (sh : Shape) (R : List Record) (o : ℕ) (t : Tops) : Type 0 where
  pub l3 : t.l3 ≡ l3_of sh (extents_of R o)
  pub lowering : t.lowering ≡ suc (lowering_count R)

-- the record by what was read
abbrev pub record_with : Ground → ℕ → Groups → Tops → List ℕ → LowerRecord
record_with g kept levels tops released = record {
  obj = g.segment.obj;
  header = g.segment.header;
  lowering = tops.lowering;
  kept = kept;
  low = min g.segment.low (min g.segment.high (data_count g.shape kept));
  high = min g.segment.high (data_count g.shape kept);
  l2 = levels.l2;
  l3 = tops.l3;
  bests = levels.bests;
  released = released;
}
