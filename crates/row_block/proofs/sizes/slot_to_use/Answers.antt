use Rattle.std.proofs.Common.{◌≡◌, ◌≤◌, ℕ, cond, ltb, Option, Some, None, arith}
use Rattle.seg_words.proofs.Lemmas.{nat_tests, prefix_len-le-length}
use Rattle.row_block.proofs.sizes.slot_to_use.Goals as goal

none_is : (p n : ℕ) (o : Option ℕ) → p ≤ n → o ≡ None → o ≡ cond (ltb p n) (Some p) None → n ≡ p
none_is p n o h z e = grind (arith, nat_tests)

pub returns-in-None-clause-value : goal.returns-in-None-clause-value
returns-in-None-clause-value g c = none_is _ _ c.reusable_slot.result (prefix_len-le-length _ c.args.slots.now) c.in-None.is c.reusable_slot.ensures
