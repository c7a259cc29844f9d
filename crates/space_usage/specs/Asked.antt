-- What a page tells of the settling of a row block.
use Rattle.std.specs.Prelude.{ℕ, cond, ltb, leb, List, Option, Some, None, slice_set}
use Rattle.seg_words.specs.Types.{Class, class_of_block, MOST_PCTFREE, MOST_EXTENT_BLOCKS, EXTENTS_OF_L2}
use Rattle.bitmap_block.specs.Codes.{best_of}
use Rattle.bitmap_block.specs.declared.limit.TheConstants.{GREATEST_CODE}
use Rattle.txn_block.specs.Types.{TxnTable}
use Rattle.version_laws.specs.Types.{ended_by}
use Rattle.page_set.specs.declared.page.Page.{Page}
use Rattle.page_set.specs.declared.page.Page.TheVariants.{First, Second, Rows}
use Rattle.usage_laws.specs.Types.{stated_by, ended_named, names_known}

-- the ended transactions that a row block names, where one of its slots names one that committed and isn't forgotten
abbrev pub clean_in : TxnTable → Page → Option (Option (List (ℕ × ℕ)))
clean_in q (Rows p) = Some (cond (names_known (stated_by q) p.block.slots) (Some (ended_named (ended_by q) (stated_by q) p.block)) None)
clean_in q _ = None

-- the class of a row block
abbrev pub class_in : TxnTable → ℕ → Page → Option Class
class_in q pctfree (Rows p) = cond (leb pctfree MOST_PCTFREE) (Some (class_of_block (ended_by q) pctfree p.block)) None
class_in q pctfree _ = None

-- the best of a bitmap with this code at this place
abbrev pub best_with : ℕ → ℕ → ℕ → List ℕ → Option ℕ
best_with places nth code codes = cond (ltb nth places) (cond (leb code GREATEST_CODE) (Some (best_of (slice_set codes nth code))) None) None

abbrev pub best_in : ℕ → ℕ → Page → Option ℕ
best_in nth code (First m) = best_with MOST_EXTENT_BLOCKS nth code m.codes
best_in nth code (Second m) = best_with EXTENTS_OF_L2 nth code m.codes
best_in nth code _ = None
