use Rattle.lowering.proofs.slots.+are_reusable_below.Given as goal

abbrev pub decreases-are_reusable_below : goal.decreases-are_reusable_below
decreases-are_reusable_below l = l.n
