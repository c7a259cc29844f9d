-- Parts of a file: as they are read, and under writes.
use Rattle.std.proofs.Common.{◌≡◌, ◌⊎◌, inl, inr, ⊎_elim, ℕ, ◌+◌, ◌-◌, ◌≤◌, min, nat_eq, Bool, true, false, List, [], ◌++◌, replicate, length, take, drop, refl, sym, ◌∙◌, ap, subst, arith, length-take, Result, Ok, Err, IfOk, take-take, drop-drop, take_at, drop_at, append-nil, append_assoc}
use Rattle.seg_words.specs.Types.{BLOCK_SIZE}
use Rattle.seg_words.proofs.Lemmas.{cases_eq, nat_tests, drop_all}
use Rattle.std.proofs.lemmas.List.{drop-take}
use Rattle.disk_model.specs.Types.{written, Torn}
use Rattle.page_store.specs.Types.{part, IsPartRead, IsHeadRead, AREA_AT, AREA_END}

-- what a read of a page gives
pub read_whole : (n at : ℕ) (bytes page was : List ℕ) → length was ≡ BLOCK_SIZE → n ≡ min (length was) (length bytes - at) → page ≡ take n (drop at bytes) ++ drop n was → IsPartRead at bytes page (nat_eq n BLOCK_SIZE)
read_whole n at bytes page was long count is = elim (cases_eq n BLOCK_SIZE) [
  | inl whole ↦ (
      let test : nat_eq n BLOCK_SIZE ≡ true = grind (arith, nat_tests, whole) in
      let none : drop n was ≡ [] = drop_all n was (omega arith) in
      let same : page ≡ part at BLOCK_SIZE bytes = is ∙ ap (λ (l : List ℕ). take n (drop at bytes) ++ l) none ∙ append-nil (take n (drop at bytes)) ∙ ap (λ (k : ℕ). take k (drop at bytes)) whole in
      subst (IsPartRead at bytes page) (sym test) (omega arith, same)
      )
  | inr cut ↦ (
      let test : nat_eq n BLOCK_SIZE ≡ false = grind (arith, nat_tests, cut) in
      subst (IsPartRead at bytes page) (sym test) (omega arith)
      )
]

-- what a read of the area's head gives, where the file is that long
pub head_read : (bytes head : List ℕ) (whole : Bool) → AREA_END ≤ length bytes → IsPartRead AREA_AT bytes head whole → IsHeadRead bytes head whole
head_read bytes head true long is = (long, is.1)
head_read bytes head false long is = absurd (omega arith)

pub head_found : {E : Type 0} (old bytes head : List ℕ) (r : Result Bool E) → bytes ≡ old → AREA_END ≤ length old → IfOk r (IsPartRead AREA_AT bytes head) → IfOk r (IsHeadRead old head)
head_found old bytes head (Ok whole) same long is = head_read old head whole long (subst (λ (l : List ℕ). IsPartRead AREA_AT l head whole) same is)
head_found old bytes head (Err e) same long is = is

part_within : (k n at : ℕ) (l : List ℕ) → k + n ≤ at → part k n (take at l) ≡ part k n l
part_within k n at l le = sym (drop-take k n (take at l)) ∙ ap (drop k) (take-take (k + n) at l le) ∙ drop-take k n l

part_behind : (k n m : ℕ) (l : List ℕ) → m ≤ k → part (k - m) n (drop m l) ≡ part k n l
part_behind k n m l le = ap (take n) (drop-drop (k - m) m l ∙ ap (λ (i : ℕ). drop i l) (omega arith))

-- what a write doesn't reach stays, torn or not
pub part_torn : (at m k n : ℕ) (old new : List ℕ) → Torn at m old new → at ≤ length old → (k + n ≤ at) ⊎ (at + m ≤ k) → part k n new ≡ part k n old
part_torn at m k n old new torn long apart =
    let front : take at new ≡ take at old = ap (λ (i : ℕ). take i new) (omega arith) ∙ torn.before in
    ⊎_elim (λ le. sym (part_within k n at new le) ∙ ap (part k n) front ∙ part_within k n at old le)
    (λ le. sym (part_behind k n (at + m) new le) ∙ ap (part (k - (at + m)) n) torn.after ∙ part_behind k n (at + m) old le) apart

pub length_torn : (at m : ℕ) (old new : List ℕ) → Torn at m old new → at + m ≤ length old → length new ≡ length old
length_torn at m old new torn le = omega (arith, torn.no_shorter, torn.no_longer)

-- what was written is there
pub part_written : (old bytes : List ℕ) (at : ℕ) → at ≤ length old → part at (length bytes) (written old at bytes) ≡ bytes
part_written old bytes at le =
    let none : at - length old ≡ 0 = omega arith in
    let is : written old at bytes ≡ take at old ++ (bytes ++ drop (at + length bytes) old) =
    ap (λ (n : ℕ). take at old ++ replicate n 0 ++ bytes ++ drop (at + length bytes) old) none ∙ ap (λ (l : List ℕ). l ++ bytes ++ drop (at + length bytes) old) (append-nil (take at old)) ∙ append_assoc (take at old) bytes (drop (at + length bytes) old) in
    let behind : drop at (written old at bytes) ≡ bytes ++ drop (at + length bytes) old = ap (drop at) is ∙ drop_at (take at old) (bytes ++ drop (at + length bytes) old) at (omega (arith, length-take at old)) in
    ap (take (length bytes)) behind ∙ take_at bytes (drop (at + length bytes) old) (length bytes) refl
