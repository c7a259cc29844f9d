-- What a shrink over a small run means, and what it doesn't: block 43 has rows 1 and 3, block 44 behind it rows 4 and 5, of 1,500
-- and 1,800 letters, of which only the first fits into block 43.
use Rattle.std.specs.Prelude.{List, [], ◌∷◌}
use Rattle.redo_model.specs.Records.{Record}
use Rattle.redo_model.specs.Model.{at_place}
use Rattle.redo_model.specs.Worked.{small, format_block, extend_by, returned, moved, lowered}
use Rattle.history_text.specs.declared.outcome.Stop.{Stop}
use Rattle.history_text.specs.declared.outcome.Stop.TheVariants.{NoFit, Bottom}
use Rattle.history_model.specs.Spans.{Span}
use Rattle.history_model.specs.ShrinkMeans.{CompactMeans, ShrinkMeans}
use Rattle.history_model.specs.Worked.{name_t}

abbrev pub shrink_span : List Record → List Record → Span
shrink_span B E = record { session = 1; scripts = []; past = []; begun = B; ended = E }

-- row 4 was moved, then two blocks were formatted and an extent was taken
abbrev pub extended : List Record
extended = extend_by 1 ∷ format_block 46 ∷ format_block 45 ∷ moved

-- one that only compacts, and stops as it begins, over the 29 records
abbrev pub Stops : Stop → Type 0
Stops stop = CompactMeans small (shrink_span returned returned) name_t 0 0 stop [] 29

pub record ShrinksAreShown : Type 0 where
  pub stops_at_the_last_row : Stops (NoFit (at_place 44 2))
  pub releases_the_second_extent : ShrinkMeans small (shrink_span extended lowered) name_t 0 0 (NoFit (at_place 44 2)) 1 4 [] 34
  pub lower_slot_named : Stops (NoFit (at_place 44 1)) → ⊥
  pub stopped_at_the_bottom : Stops Bottom → ⊥
  pub moved_past_a_greater_slot : (stop : Stop) → CompactMeans small (shrink_span returned moved) name_t 1 0 stop [] 31 → ⊥
