-- What parts use.
use Rattle.std.proofs.Common.{◌≡◌, ℕ, ◌+◌, ◌<◌, ◌≤◌, min, List, [], ◌∷◌, ◌++◌, length, take, get_or, sym, ap, ◌∙◌, arith, take_all}
use Rattle.seg_words.proofs.Lemmas.{sum_by-cons, take_more}
use Rattle.seg_words.specs.Types.{BLOCK_ROOM, UNDO_PART_SIZE, MOST_UNDO_PARTS}
use Rattle.undo_block.specs.Types.{Part, part_size, used_by}
use Rattle.undo_block.specs.Again.{few_parts}

pub used_push : (ps : List Part) (p : Part) → used_by (ps ++ p ∷ []) ≡ used_by ps + part_size p
used_push [] p = omega arith
used_push (q ∷ ps) p = omega (arith, used_push ps p, sum_by-cons part_size q (ps ++ p ∷ []), sum_by-cons part_size q ps)

pub few : (ps : List Part) → used_by ps ≤ BLOCK_ROOM → length ps ≤ MOST_UNDO_PARTS
few ps le = omega (arith, le, few_parts ps)

pub used_append : (ps qs : List Part) → used_by (ps ++ qs) ≡ used_by ps + used_by qs
used_append [] qs = omega arith
used_append (p ∷ ps) qs = omega (arith, used_append ps qs, sum_by-cons part_size p (ps ++ qs), sum_by-cons part_size p ps)

used_more : (ps : List Part) (i : ℕ) (d : Part) → i < length ps → used_by (take (i + 1) ps) ≡ used_by (take i ps) + part_size (get_or ps i d)
used_more ps i d lt = ap used_by (take_more ps i d lt) ∙ used_push (take i ps) (get_or ps i d)

pub need_next : (ps : List Part) (i : ℕ) (p : Part) (need : ℕ) → need ≡ min (used_by (take i ps)) 65535 → i < length ps → p ≡ get_or ps i p
    → min (need + UNDO_PART_SIZE + min (length p.old.bytes) 65535) 65535 ≡ min (used_by (take (i + 1) ps)) 65535
need_next ps i p need is lt at =
    let size : part_size (get_or ps i p) ≡ part_size p = ap part_size (sym at) in
    omega (arith, is, used_more ps i p lt, size)

pub need_all : (ps : List Part) (i : ℕ) → length ps ≤ i → used_by (take i ps) ≡ used_by ps
need_all ps i le = ap used_by (take_all i ps le)
