-- The holder of the parts behind a place.
use Rattle.std.proofs.Common.{◌≡◌, ℕ, ◌+◌, ◌<◌, ◌≤◌, Bool, List, length, drop, get_or, sym, ap, ◌∙◌, None}
use Rattle.seg_words.proofs.Lemmas.{drop_more, drop_all}
use Rattle.undo_block.specs.Types.{Part, holder_of, with_part}

pub none_held : (ended : ℕ → Bool) (ps : List Part) (i : ℕ) → length ps ≤ i → holder_of ended (drop i ps) ≡ None
none_held ended ps i le = ap (holder_of ended) (drop_all i ps le)

pub held_next : (ended : ℕ → Bool) (ps : List Part) (i j : ℕ) (d : Part) → j < length ps → i ≡ j + 1 → holder_of ended (drop j ps) ≡ with_part ended (get_or ps j d) (holder_of ended (drop i ps))
held_next ended ps i j d lt e = ap (holder_of ended) (drop_more ps j d lt) ∙ ap (λ (k : ℕ). with_part ended (get_or ps j d) (holder_of ended (drop k ps))) (sym e)
