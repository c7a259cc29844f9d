-- A loop that reads parts.
use Rattle.std.proofs.Common.{◌≡◌, ℕ, zero, suc, ◌+◌, ◌-◌, ◌<◌, ◌≤◌, List, [], ◌∷◌, ◌++◌, length, take, drop, refl, sym, ap, ◌∙◌, append_assoc, arith, true, nat_lt, lt-ltb, append-nil}
use Rattle.seg_words.specs.Types.{BLOCK_ROOM, UNDO_PART_SIZE}
use Rattle.undo_block.specs.Types.{Part, part_size, used_by, len_in, part_from, parts_in}
use Rattle.undo_block.specs.Again.{next_parts}
use Rattle.undo_block.proofs.Sizes.{used_push}

pub record Reads (count i : ℕ) (front : List Part) (bytes : List ℕ) (all : List Part) : Type 0 where
  pub room : used_by front + length bytes ≤ BLOCK_ROOM
  pub same : front ++ parts_in (count - i) bytes ≡ all

pub none_read : (count : ℕ) (bytes : List ℕ) → length bytes ≤ BLOCK_ROOM → Reads count 0 [] bytes (parts_in count bytes)
none_read count bytes le = let z : count - 0 ≡ count = omega arith in record { room = omega (arith, le); same = ap (λ (n : ℕ). parts_in n bytes) z }

none_short : (n : ℕ) (bytes : List ℕ) → length bytes < UNDO_PART_SIZE → parts_in n bytes ≡ []
unfolding parts_in
none_short zero bytes lt = refl
none_short (suc n) bytes lt = let short : nat_lt (length bytes) UNDO_PART_SIZE ≡ true = lt-ltb (length bytes) UNDO_PART_SIZE lt in rw short refl

pub short_read : (count i : ℕ) (front : List Part) (bytes : List ℕ) (all : List Part) → Reads count i front bytes all → length bytes < UNDO_PART_SIZE → front ≡ all
short_read count i front bytes all r lt = sym (append-nil front) ∙ sym (ap (λ (ps : List Part). front ++ ps) (none_short (count - i) bytes lt)) ∙ r.same

pub all_read : (count i : ℕ) (front : List Part) (bytes : List ℕ) (all : List Part) → Reads count i front bytes all → count ≤ i → front ≡ all
unfolding parts_in
all_read count i front bytes all r le =
    let none : count - i ≡ 0 = omega (arith, le) in
    sym (append-nil front) ∙ sym (ap (λ (n : ℕ). front ++ parts_in n bytes) none) ∙ r.same

pub one_read : (count i : ℕ) (front : List Part) (bytes group more row others : List ℕ) (len : ℕ) (p : Part) (front' : List Part) (all : List Part) → Reads count i front bytes all → i < count → UNDO_PART_SIZE ≤ length bytes
    → group ≡ take UNDO_PART_SIZE bytes → more ≡ drop UNDO_PART_SIZE bytes → len ≡ len_in group → row ≡ take len more → others ≡ drop len more → length row + length others ≡ length more → length more + UNDO_PART_SIZE ≡ length bytes
    → p ≡ part_from group row → part_size p ≡ UNDO_PART_SIZE + length row → front' ≡ front ++ p ∷ [] → Reads count (i + 1) front' others all
one_read count i front bytes group more row others len p front' all r lt long g m l w o sum rest is size f =
    let left : count - i ≡ suc (count - (i + 1)) = omega (arith, lt) in
    let step : parts_in (count - i) bytes ≡ p ∷ parts_in (count - (i + 1)) others
    = ap (λ (n : ℕ). parts_in n bytes) left ∙ next_parts (count - (i + 1)) bytes long
    ∙ ap (λ (x : List ℕ). part_from x (take (len_in x) (drop UNDO_PART_SIZE bytes)) ∷ parts_in (count - (i + 1)) (drop (len_in x) (drop UNDO_PART_SIZE bytes))) (sym g)
    ∙ ap (λ (x : List ℕ). part_from group (take (len_in group) x) ∷ parts_in (count - (i + 1)) (drop (len_in group) x)) (sym m)
    ∙ ap (λ (k : ℕ). part_from group (take k more) ∷ parts_in (count - (i + 1)) (drop k more)) (sym l)
    ∙ ap (λ (x : List ℕ). part_from group x ∷ parts_in (count - (i + 1)) (drop len more)) (sym w)
    ∙ ap (λ (x : List ℕ). part_from group row ∷ parts_in (count - (i + 1)) x) (sym o)
    ∙ ap (λ (q : Part). q ∷ parts_in (count - (i + 1)) others) (sym is) in
    let used : used_by front' ≡ used_by front + part_size p = ap used_by f ∙ used_push front p in
    record {
      room = omega (arith, r.room, used, size, sum, rest);
      same = ap (λ (ps : List Part). ps ++ parts_in (count - (i + 1)) others) f ∙ append_assoc front (p ∷ []) (parts_in (count - (i + 1)) others)
          ∙ ap (λ (ps : List Part). front ++ ps) (sym step) ∙ r.same;
    }
