-- The blocks of a batch, and the pages that it has for them.
use Rattle.std.proofs.Common.{◌≡◌, ◌≢◌, ◌⊎◌, inl, inr, ℕ, zero, suc, ◌+◌, ◌*◌, ◌<◌, ◌≤◌, ◌==◌, nat_le, nat_lt, leb, Bool, true, false, not, ◌&&◌, ◌||◌, cond, List, [], ◌∷◌, length, get_or, refl, sym, ◌∙◌, ap, arith, leb-true, ltb-true}
use Rattle.seg_words.specs.Types.{AllByRecursion, list_all, list_any, is_shape, Shape, BLOCK_SIZE, DOUBLE_WRITE_BLOCK, DOUBLE_WRITE_PAGES, LEAST_BLOCKS, LEAST_EXTENT_BLOCKS, LEAST_UNDO_BLOCKS, MOST_BLOCKS, MOST_EXTENT_BLOCKS, MOST_UNDO_BLOCKS, OWN_BLOCKS}
use Rattle.seg_words.proofs.Lemmas.{cases_eq}
use Rattle.page_store.specs.Types.{page_in, is_place, are_apart, is_batch, blocks_of, IsNotIn, RawPage, AREA_AT, AREA_END, LAST_COPY}
use Rattle.page_store.proofs.Heads.{is_same, differs}

-- by index and by recursion
pub by_recursion : (P : RawPage → Type 0) (batch : List RawPage) → ((j : ℕ) (d : RawPage) → j < length batch → P (get_or batch j d)) → AllByRecursion P batch
by_recursion P [] all = tt
by_recursion P (p ∷ batch) all = (all 0 p (omega arith), by_recursion P batch (λ j d lt. all (suc j) d (omega arith)))

pub to_index : (P : RawPage → Type 0) (batch : List RawPage) → AllByRecursion P batch → (j : ℕ) (d : RawPage) → j < length batch → P (get_or batch j d)
to_index P [] all j d lt = absurd (omega arith)
to_index P (p ∷ batch) all zero d lt = all.0
to_index P (p ∷ batch) all (suc j) d lt = to_index P batch all.1 j d (omega arith)

pub both_true : (a b : Bool) → (a && b) ≡ true → (a ≡ true) × (b ≡ true)
both_true true b h = (refl, h)
both_true false b h = absurd cc

-- a block outside the area lies before it or behind it
pub record IsOutside (shape : Shape) (b : ℕ) : Type 0 where
  pub within : b < shape.blocks
  pub apart : (BLOCK_SIZE * b + BLOCK_SIZE ≤ AREA_AT) ⊎ (AREA_END ≤ BLOCK_SIZE * b)

pub outside : (shape : Shape) (b : ℕ) → is_place shape b ≡ true → IsOutside shape b
outside shape b is =
    let h = both_true (nat_lt b shape.blocks) (nat_lt b DOUBLE_WRITE_BLOCK || nat_lt LAST_COPY b) is in
    record { within = ltb-true b shape.blocks h.0; apart = either (nat_lt b DOUBLE_WRITE_BLOCK) (nat_lt LAST_COPY b) h.1 (λ e. ltb-true b DOUBLE_WRITE_BLOCK e) (λ e. ltb-true LAST_COPY b e) }
  where
    either : (x y : Bool) → (x || y) ≡ true → (x ≡ true → b < DOUBLE_WRITE_BLOCK) → (y ≡ true → LAST_COPY < b) → (BLOCK_SIZE * b + BLOCK_SIZE ≤ AREA_AT) ⊎ (AREA_END ≤ BLOCK_SIZE * b)
    either true y h low high = inl (let lt = low refl in omega (arith, lt))
    either false y h low high = inr (let lt = high h in omega (arith, lt))

places_all : (shape : Shape) (batch : List RawPage) → list_all (is_place shape) (blocks_of batch) ≡ true → AllByRecursion (λ (p : RawPage). IsOutside shape p.dba) batch
places_all shape [] is = tt
places_all shape (p ∷ batch) is =
    let h = both_true (is_place shape p.dba) (list_all (is_place shape) (blocks_of batch)) is in
    (outside shape p.dba h.0, places_all shape batch h.1)

-- none of them is this one
none_is : (b : ℕ) (batch : List RawPage) → not (list_any (λ d. d == b) (blocks_of batch)) ≡ true → IsNotIn b batch
none_is b [] is = tt
none_is b (p ∷ batch) is =
    let h = neither (p.dba == b) (list_any (λ d. d == b) (blocks_of batch)) is in
    (λ same. absurd (clash (p.dba == b) (is_same p.dba b same) h.0), none_is b batch h.1)
  where
    neither : (x y : Bool) → not (x || y) ≡ true → (x ≡ false) × (not y ≡ true)
    neither true y h = absurd cc
    neither false y h = (refl, h)

    clash : (x : Bool) → x ≡ true → x ≡ false → ⊥
    clash x p q = cc

-- distinct, the earlier from the later
pub apart_all : (batch : List RawPage) → are_apart (blocks_of batch) ≡ true → (j k : ℕ) (d : RawPage) → j < k → k < length batch → (get_or batch j d).dba ≢ (get_or batch k d).dba
apart_all [] is j k d lt le = absurd (omega arith)
apart_all (p ∷ batch) is j zero d lt le = absurd (omega arith)
apart_all (p ∷ batch) is zero (suc k) d lt le =
    let h = both_true (not (list_any (λ e. e == p.dba) (blocks_of batch))) (are_apart (blocks_of batch)) is in
    λ same. to_index (λ (q : RawPage). q.dba ≢ p.dba) batch (none_is p.dba batch h.0) k d (omega arith) (sym same)
apart_all (p ∷ batch) is (suc j) (suc k) d lt le =
    let h = both_true (not (list_any (λ e. e == p.dba) (blocks_of batch))) (are_apart (blocks_of batch)) is in
    apart_all batch h.1 j k d (omega arith) (omega arith)

length-blocks : (batch : List RawPage) → length (blocks_of batch) ≡ length batch
length-blocks [] = refl
length-blocks (p ∷ batch) = ap suc (length-blocks batch)

-- what the test of a batch says
pub record IsBatch (shape : Shape) (batch : List RawPage) : Type 0 where
  pub some : 1 ≤ length batch
  pub few : length batch ≤ DOUBLE_WRITE_PAGES
  pub places : (j : ℕ) (d : RawPage) → j < length batch → IsOutside shape (get_or batch j d).dba
  pub apart : (j k : ℕ) (d : RawPage) → j < k → k < length batch → (get_or batch j d).dba ≢ (get_or batch k d).dba

pub tested : (shape : Shape) (batch : List RawPage) → is_batch shape (blocks_of batch) ≡ true → IsBatch shape batch
tested shape batch is =
    let blocks = blocks_of batch in
    let h1 = both_true (nat_le 1 (length blocks)) (nat_le (length blocks) DOUBLE_WRITE_PAGES && (list_all (is_place shape) blocks && are_apart blocks)) is in
    let h2 = both_true (nat_le (length blocks) DOUBLE_WRITE_PAGES) (list_all (is_place shape) blocks && are_apart blocks) h1.1 in
    let h3 = both_true (list_all (is_place shape) blocks) (are_apart blocks) h2.1 in
    let some = leb-true 1 (length blocks) h1.0 in
    let few = leb-true (length blocks) DOUBLE_WRITE_PAGES h2.0 in
    record {
      some = omega (arith, some, length-blocks batch);
      few = omega (arith, few, length-blocks batch);
      places = to_index (λ (p : RawPage). IsOutside shape p.dba) batch (places_all shape batch h3.0);
      apart = apart_all batch h3.1;
    }

taken : (n b : ℕ) (x y : List ℕ) → n ≡ b → cond (n == b) x y ≡ x
taken n b x y is = ap (λ (t : Bool). cond t x y) (is_same n b is)

passed : (n b : ℕ) (x y : List ℕ) → n ≢ b → cond (n == b) x y ≡ y
passed n b x y is = ap (λ (t : Bool). cond t x y) (differs n b is)

-- the other page counts only where the batch has none
pub page_else : (b : ℕ) (batch : List RawPage) (x y : List ℕ) → (IsNotIn b batch → x ≡ y) → page_in batch b x ≡ page_in batch b y
page_else b [] x y same = same tt
page_else b (p ∷ batch) x y same = elim (cases_eq p.dba b) [
  | inl here ↦ taken p.dba b p.bytes (page_in batch b x) here ∙ sym (taken p.dba b p.bytes (page_in batch b y) here)
  | inr away ↦ passed p.dba b p.bytes (page_in batch b x) away ∙ page_else b batch x y (λ rest. same (away, rest)) ∙ sym (passed p.dba b p.bytes (page_in batch b y) away)
]

pub page_none : (b : ℕ) (batch : List RawPage) (x : List ℕ) → IsNotIn b batch → page_in batch b x ≡ x
page_none b [] x none = refl
page_none b (p ∷ batch) x none = passed p.dba b p.bytes (page_in batch b x) none.0 ∙ page_none b batch x none.1

pub page_twice : (b : ℕ) (batch : List RawPage) (x : List ℕ) → page_in batch b (page_in batch b x) ≡ page_in batch b x
page_twice b batch x = page_else b batch (page_in batch b x) x (λ none. page_none b batch x none)

-- what stands there already, or is another's
pub page_placed : (b : ℕ) (batch : List RawPage) (at : ℕ → List ℕ) (x : List ℕ) → AllByRecursion (λ (p : RawPage). at p.dba ≡ p.bytes) batch → (IsNotIn b batch → at b ≡ x) → at b ≡ page_in batch b x
page_placed b [] at x all same = same tt
page_placed b (p ∷ batch) at x all same = elim (cases_eq p.dba b) [
  | inl here ↦ ap at (sym here) ∙ all.0 ∙ sym (taken p.dba b p.bytes (page_in batch b x) here)
  | inr away ↦ page_placed b batch at x all.1 (λ rest. same (away, rest)) ∙ sym (passed p.dba b p.bytes (page_in batch b x) away)
]

-- the limits of a store's blocks
pub limits : (shape : Shape) → is_shape shape ≡ true → (LEAST_BLOCKS ≤ shape.blocks) × (shape.blocks ≤ MOST_BLOCKS)
limits shape is =
    let a = leb LEAST_BLOCKS shape.blocks in
    let b = leb shape.blocks MOST_BLOCKS in
    let c = leb LEAST_EXTENT_BLOCKS shape.extent in
    let d = leb shape.extent MOST_EXTENT_BLOCKS in
    let e = leb LEAST_UNDO_BLOCKS shape.undo in
    let f = leb shape.undo MOST_UNDO_BLOCKS in
    let g = leb (OWN_BLOCKS + shape.undo + shape.extent) shape.blocks in
    let h = both_true a b (both_true (a && b) c (both_true (a && b && c) d (both_true (a && b && c && d) e (both_true (a && b && c && d && e) f (both_true (a && b && c && d && e && f) g is).0).0).0).0).0 in
    (leb-true LEAST_BLOCKS shape.blocks h.0, leb-true shape.blocks MOST_BLOCKS h.1)
