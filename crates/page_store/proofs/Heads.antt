-- The head of the area, and what makes it sound.
use Rattle.std.proofs.Common.{◌≡◌, ◌≢◌, ℕ, zero, suc, ◌+◌, ◌*◌, ◌<◌, ◌≤◌, ◌==◌, nat_le, Bool, true, false, not, ◌&&◌, ◌||◌, List, ◌∷◌, length, take, drop, get_or, refl, sym, ◌∙◌, ap, arith, drop-cons, w32, le-leb, leb-true}
use Rattle.seg_words.specs.Types.{list_all, number_in, Shape, DOUBLE_WRITE_BLOCK, DOUBLE_WRITE_PAGES}
use Rattle.seg_words.proofs.Lemmas.{nat_tests}
use Rattle.page_store.specs.Types.{block, gate, numbers, head_blocks, is_place, are_apart, is_batch, is_sound_area, IsHeadRead, AREA_END, NUMBERS_AT}

pub length-numbers : (i n : ℕ) (head : List ℕ) → length (numbers i n head) ≡ n
length-numbers i zero head = refl
length-numbers i (suc n) head = ap suc (length-numbers (suc i) n head)

-- numbers that were read one by one
numbers_from : (blocks head : List ℕ) → ((i : ℕ) → i < length blocks → get_or blocks i 0 ≡ number_in w32 head (NUMBERS_AT + 4 * i)) → (n i : ℕ) → i + n ≤ length blocks → take n (drop i blocks) ≡ numbers i n head
numbers_from blocks head each zero i le = refl
numbers_from blocks head each (suc n) i le =
    ap (take (suc n)) (drop-cons blocks i 0 (omega arith)) ∙ ap (λ (x : ℕ). x ∷ take n (drop (suc i) blocks)) (each i (omega arith)) ∙ ap (λ (l : List ℕ). number_in w32 head (NUMBERS_AT + 4 * i) ∷ l) (numbers_from blocks head each n (suc i) (omega arith))

pub numbers_read : (blocks head : List ℕ) (n : ℕ) → length blocks ≡ DOUBLE_WRITE_PAGES → n ≤ DOUBLE_WRITE_PAGES → ((i : ℕ) → i < DOUBLE_WRITE_PAGES → get_or blocks i 0 ≡ number_in w32 head (NUMBERS_AT + 4 * i)) → take n blocks ≡ numbers 0 n head
numbers_read blocks head n long le each = numbers_from blocks head (λ i lt. each i (omega arith)) n 0 (omega arith)

pub is_less : (n m : ℕ) → n ≤ m → nat_le n m ≡ true
is_less n m le = le-leb n m le

pub is_more : (n m : ℕ) → m < n → nat_le n m ≡ false
is_more n m lt = grind (arith, nat_tests)

pub is_same : (n m : ℕ) → n ≡ m → (n == m) ≡ true
is_same n m same = grind (arith, nat_tests)

pub differs : (n m : ℕ) → n ≢ m → (n == m) ≡ false
differs n m other = grind (arith, nat_tests)

pub too_many : (shape : Shape) (blocks : List ℕ) → DOUBLE_WRITE_PAGES < length blocks → is_batch shape blocks ≡ false
too_many shape blocks more = at (nat_le 1 (length blocks)) (nat_le (length blocks) DOUBLE_WRITE_PAGES) (list_all (is_place shape) blocks && are_apart blocks) (is_more (length blocks) DOUBLE_WRITE_PAGES more)
  where
    at : (a b c : Bool) → b ≡ false → (a && (b && c)) ≡ false
    at true b c p = ap (λ (x : Bool). x && c) p
    at false b c p = refl

-- the ways of an area
module _ (shape : Shape) (bytes : List ℕ) where
  of_batch : Bool
  of_batch = is_batch shape (head_blocks (block DOUBLE_WRITE_BLOCK bytes))

  pub sound_shut : AREA_END ≤ length bytes → gate bytes ≢ 1 → is_sound_area shape bytes ≡ true
  unfolding of_batch
  sound_shut long shut = at (nat_le AREA_END (length bytes)) (gate bytes == 1) of_batch (is_less AREA_END (length bytes) long) (differs (gate bytes) 1 shut)
    where
      at : (a b c : Bool) → a ≡ true → b ≡ false → (a && (not b || c)) ≡ true
      at a b c p q = ap (λ (x : Bool). x && (not b || c)) p ∙ ap (λ (x : Bool). not x || c) q

  pub sound_open : AREA_END ≤ length bytes → gate bytes ≡ 1 → is_sound_area shape bytes ≡ is_batch shape (head_blocks (block DOUBLE_WRITE_BLOCK bytes))
  unfolding of_batch
  sound_open long one = at (nat_le AREA_END (length bytes)) (gate bytes == 1) of_batch (is_less AREA_END (length bytes) long) (is_same (gate bytes) 1 one)
    where
      at : (a b c : Bool) → a ≡ true → b ≡ true → (a && (not b || c)) ≡ c
      at a b c p q = ap (λ (x : Bool). x && (not b || c)) p ∙ ap (λ (x : Bool). not x || c) q

  pub sound_cut : length bytes < AREA_END → is_sound_area shape bytes ≡ false
  unfolding of_batch
  sound_cut short = ap (λ (x : Bool). x && (not (gate bytes == 1) || of_batch)) (is_more AREA_END (length bytes) short)

  pub sound_long : is_sound_area shape bytes ≡ true → AREA_END ≤ length bytes
  unfolding of_batch
  sound_long sound = leb-true AREA_END (length bytes) (at (nat_le AREA_END (length bytes)) (not (gate bytes == 1) || of_batch) sound)
    where
      at : (a b : Bool) → (a && b) ≡ true → a ≡ true
      at true b p = refl
      at false b p = absurd cc

-- what a look at the area found, where the file has it
module _ (shape : Shape) (bytes head : List ℕ) (read : IsHeadRead bytes head true) where
  gate_read : get_or head 0 0 ≡ gate bytes
  gate_read = ap (λ (l : List ℕ). get_or l 0 0) read.1

  pub found_shut : get_or head 0 0 ≢ 1 → (is_sound_area shape bytes ≡ true) × (gate bytes ≢ 1)
  found_shut other = let shut : gate bytes ≢ 1 = λ one. other (gate_read ∙ one) in (sound_shut shape bytes read.0 shut, shut)

  pub found_open : (blocks : List ℕ) → get_or head 0 0 ≡ 1 → (blocks ≡ head_blocks head) × (is_batch shape blocks ≡ true) → (is_sound_area shape bytes ≡ true) × (gate bytes ≡ 1) × (blocks ≡ head_blocks (block DOUBLE_WRITE_BLOCK bytes))
  found_open blocks one found =
      let is = found.0 ∙ ap head_blocks read.1 in
      (sound_open shape bytes read.0 (sym gate_read ∙ one) ∙ ap (is_batch shape) (sym is) ∙ found.1, sym gate_read ∙ one, is)

  pub found_bad : get_or head 0 0 ≡ 1 → is_batch shape (head_blocks head) ≡ false → is_sound_area shape bytes ≡ false
  found_bad one test = sound_open shape bytes read.0 (sym gate_read ∙ one) ∙ ap (λ (l : List ℕ). is_batch shape (head_blocks l)) (sym read.1) ∙ test
