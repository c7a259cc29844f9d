-- Parts of the form that has a spelling.
use Rattle.std.proofs.Common.{ℕ, zero, suc, ◌≤◌, List, [], ◌∷◌, ◌++◌, length, drop, arith}
use Rattle.seg_words.specs.Types.{AllByRecursion}
use Rattle.page_bytes.specs.Types.{fields_in}
use Rattle.page_bytes.proofs.Ranges.{slot_formed}
use Rattle.undo_block.specs.Types.{Part, PlaceIsThere, HasPartForm, previous_as, len_in, part_from}

pub forms_append : (ps qs : List Part) → AllByRecursion HasPartForm ps → AllByRecursion HasPartForm qs → AllByRecursion HasPartForm (ps ++ qs)
forms_append [] qs h k = k
forms_append (p ∷ ps) qs h k = (h.0, forms_append ps qs h.1 k)

pub forms_push : (ps : List Part) (p : Part) → AllByRecursion HasPartForm ps → HasPartForm p → AllByRecursion HasPartForm (ps ++ p ∷ [])
forms_push ps p h k = forms_append ps (p ∷ []) h (k, tt)

-- whatever 64 bytes are, the part that they read as is of that form
previous_there : (block nth : ℕ) → PlaceIsThere (previous_as block nth)
previous_there zero nth = tt
previous_there (suc b) nth = omega arith

pub part_formed : (g row : List ℕ) → length row ≤ len_in g → HasPartForm (part_from g row)
part_formed g row le = record { previous = previous_there _ _; old = slot_formed (fields_in (drop 24 g)) row le }
