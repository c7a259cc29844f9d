-- What a lowering asks of a page; none of a page that can't be asked so.
use Rattle.std.specs.Prelude.{ℕ, zero, suc, ◌+◌, ◌-◌, ◌^◌, Bool, true, cond, ◌&&◌, leb, ltb, List, drop, slice_index_or, Option, Some, None}
use Rattle.seg_words.specs.Types.{EXTENTS_OF_L2, Slot, is_reusable, list_all, new_slot}
use Rattle.bitmap_block.specs.Codes.{best_of, cleared_from}
use Rattle.txn_block.specs.Types.{TxnTable}
use Rattle.version_laws.specs.Types.{ended_by}
use Rattle.page_set.specs.declared.page.Page.{Page}
use Rattle.page_set.specs.declared.page.Page.TheVariants.{Header, Rows, Second, Space}

-- each of the first n slots is Empty, and its last writer has ended
abbrev pub are_reusable_below : (ℕ → Bool) → List Slot → ℕ → Bool
are_reusable_below ended ss zero = true
are_reusable_below ended ss (suc n) = is_reusable ended (slice_index_or ss n new_slot) && are_reusable_below ended ss n

-- each slot of a row block is
abbrev pub vacant_in : TxnTable → Page → Option Bool
vacant_in q (Rows rows) = Some (list_all (is_reusable (ended_by q)) rows.block.slots)
vacant_in q _ = None

-- the number of the lowering after so many
abbrev pub next_lowering : ℕ → Option ℕ
next_lowering n = cond (ltb n (2 ^ 64 - 1)) (Some (n + 1)) None

abbrev pub lowering_in : Page → Option ℕ
lowering_in (Space s) = next_lowering s.lowerings
lowering_in _ = None

-- the extents past those that are kept
abbrev pub released_in : ℕ → Page → Option (List ℕ)
released_in kept (Header h) = Some (drop kept h.extents)
released_in kept _ = None

-- the best of the first codes of a second level
abbrev pub best_below : ℕ → List ℕ → Option ℕ
best_below count codes = cond (leb count EXTENTS_OF_L2) (Some (best_of (cleared_from EXTENTS_OF_L2 count codes))) None

abbrev pub best_in : ℕ → Page → Option ℕ
best_in count (Second m) = best_below count m.codes
best_in count _ = None
