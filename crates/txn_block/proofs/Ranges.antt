-- What is read from bytes is in the ranges of its fields.
use Rattle.std.proofs.Common.{ℕ, zero, suc, ◌<◌, ◌^◌, List, get_or, drop, Option, arith, w32, w64}
use Rattle.seg_words.proofs.Lemmas.{AllByRecursion}
use Rattle.seg_words.specs.Types.{UndoAddr, number_in}
use Rattle.page_bytes.specs.Types.{pieces_in, undo_as, UndoFits}
use Rattle.page_bytes.proofs.Ranges.{IsBytes, bytes_drop, number_32, number_64, pieces_fit}
use Rattle.txn_block.specs.Types.{entry_told, entry_in, IsEntry, block_from, BlockFits}

undo_fits : (b seq nth : ℕ) → b < 2 ^ 32 → seq < 2 ^ 64 → nth < 2 ^ 8 → UndoFits (undo_as b seq nth)
undo_fits zero seq nth hb hs hn = tt
undo_fits (suc b) seq nth hb hs hn = (omega arith, hb, hs, hn)

told_fits : (txn code number : ℕ) (undo : Option UndoAddr) → txn < 2 ^ 64 → number < 2 ^ 64 → UndoFits undo → IsEntry (entry_told txn code number undo)
told_fits txn zero number undo ht hn hu = tt
told_fits txn (suc zero) number undo ht hn hu = record { txn = ht; number = omega arith; undo = hu }
told_fits txn (suc (suc zero)) number undo ht hn hu = record { txn = ht; number = hn; undo = hu }
told_fits txn (suc (suc (suc zero))) number undo ht hn hu = record { txn = ht; number = omega arith; undo = hu }
told_fits txn (suc (suc (suc (suc n)))) number undo ht hn hu = tt

entry_fits : (g : List ℕ) → IsBytes g → IsEntry (entry_in g)
unfolding entry_in
entry_fits g fits =
    told_fits (number_in w64 g 0) (get_or g 8 0) (number_in w64 g 9) (undo_as (number_in w32 g 17) (number_in w64 g 21) (get_or g 29 0))
    (number_64 g 0 fits) (number_64 g 9 fits) (undo_fits (number_in w32 g 17) (number_in w64 g 21) (get_or g 29 0) (number_32 g 17 fits) (number_64 g 21 fits) (fits 29))

pub entries_fit : (n at : ℕ) (bytes : List ℕ) → IsBytes bytes → AllByRecursion IsEntry (pieces_in entry_in 32 n (drop at bytes))
entries_fit n at bytes fits = pieces_fit entry_in IsEntry 32 n (drop at bytes) entry_fits (bytes_drop at bytes fits)

pub block_fits : (n : ℕ) → n < 2 ^ 32 → BlockFits (block_from n)
block_fits zero h = tt
block_fits (suc n) h = (omega arith, h)
