-- The records of tables and marks, each field given by the list and by what was chosen.
use Rattle.std.specs.Prelude.{ℕ, suc, ◌+◌, min, Bool, List, [], ◌∷◌, ◌++◌, length}
use Rattle.seg_words.specs.Types.{Shape, Fs4, class_code, first_block, ADVANCE_BLOCKS}
use Rattle.redo_model.specs.Records.{Record, Extend, FormatBlock, Advance, TableRecord, MovementRecord, ExtendRecord, FormatBlockRecord, AdvanceRecord}
use Rattle.redo_model.specs.Model.{Extent, extents_of, data_blocks, high_mark, table_count, header_of, l2_of, l3_of, index_of}
use Rattle.mark_laws.specs.declared.step.MarkStep.{MarkStep}
use Rattle.mark_laws.specs.declared.step.MarkStep.TheVariants as step

-- a new block has the best class, so it gives both bests
abbrev pub drafted_format : Shape → List Record → ℕ → ℕ → FormatBlockRecord
drafted_format sh R o b = record {
  obj = o;
  dba = b;
  l2 = l2_of sh (extents_of R o) (index_of sh (extents_of R o) b);
  l3 = l3_of sh (extents_of R o);
  index = index_of sh (extents_of R o) b;
  best_of_l1 = class_code Fs4;
  best_of_l2 = class_code Fs4;
}

abbrev pub drafted_advance : Shape → List Record → ℕ → AdvanceRecord
drafted_advance sh R o = record {
  obj = o;
  header = header_of sh (extents_of R o);
  low = high_mark R o;
  high = min (high_mark R o + ADVANCE_BLOCKS) (length (data_blocks sh R o));
}

-- the extents of table o and extent x behind them
abbrev pub with_extent : List Record → ℕ → ℕ → List Extent
with_extent R o x = extents_of R o ++ record { number = x; incarnation = suc (length R) } ∷ []

abbrev pub drafted_extend : Shape → List Record → ℕ → ℕ → ExtendRecord
drafted_extend sh R o x = record {
  obj = o;
  header = header_of sh (with_extent R o x);
  index = length (extents_of R o);
  extent = x;
  l2 = l2_of sh (with_extent R o x) (length (extents_of R o));
  l3 = l3_of sh (with_extent R o x);
}

-- the record of a movement of the marks of table o
abbrev pub mark_record : Shape → List Record → ℕ → MarkStep → Record
mark_record sh R o (step.Format b) = FormatBlock (drafted_format sh R o b)
mark_record sh R o step.Advance = Advance (drafted_advance sh R o)
mark_record sh R o (step.Extend x) = Extend (drafted_extend sh R o x)

abbrev pub drafted_movement : Shape → List Record → ℕ → Bool → MovementRecord
drafted_movement sh R o on = record { obj = o; header = header_of sh (extents_of R o); on = on }

-- the next table, with its first extent
abbrev pub drafted_table : Shape → List Record → List ℕ → ℕ → ℕ → TableRecord
drafted_table sh R name pctfree x = record { obj = suc (table_count R); header = first_block sh x + 3; pctfree = pctfree; name = name }

abbrev pub drafted_first : Shape → List Record → ℕ → ExtendRecord
drafted_first sh R x = record { obj = suc (table_count R); header = first_block sh x + 3; index = 0; extent = x; l2 = first_block sh x + 1; l3 = first_block sh x + 2 }
