-- The copies in the area: what changes them, what makes them, what they read as.
use Rattle.std.proofs.Common.{◌≡◌, ℕ, zero, suc, ◌+◌, ◌-◌, ◌*◌, ◌^◌, ◌<◌, ◌≤◌, List, [], ◌∷◌, ◌++◌, length, take, drop, replicate, get_or, slice_index, refl, sym, ◌∙◌, ap, arith, w32, flat_map, drop-drop, take_at, drop_at, append_assoc}
use Rattle.seg_words.specs.Types.{from_be_bytes, number_in, BLOCK_SIZE, DOUBLE_WRITE_BLOCK}
use Rattle.std.proofs.lemmas.Grind.{get_or_after_one}
use Rattle.seg_words.proofs.Lemmas.{from_be_bytes-to_be_bytes_4}
use Rattle.page_bytes.specs.Types.{page_of as page_with}
use Rattle.page_store.specs.Types.{block, copy, copies, copies_of, numbers, head_blocks, blocks_of, dba_bytes, RawPage, FIRST_COPY, NUMBERS_AT}

-- their blocks are those that the head names
blocks_from : (i n : ℕ) (bytes : List ℕ) → blocks_of (copies i n bytes) ≡ numbers i n (block DOUBLE_WRITE_BLOCK bytes)
blocks_from i zero bytes = refl
blocks_from i (suc n) bytes = ap (λ (l : List ℕ). number_in w32 (block DOUBLE_WRITE_BLOCK bytes) (NUMBERS_AT + 4 * i) ∷ l) (blocks_from (suc i) n bytes)

pub blocks_named : (bytes : List ℕ) → blocks_of (copies_of bytes) ≡ head_blocks (block DOUBLE_WRITE_BLOCK bytes)
blocks_named bytes = blocks_from 0 (slice_index (block DOUBLE_WRITE_BLOCK bytes) 1) bytes

pub length-copies : (i n : ℕ) (bytes : List ℕ) → length (copies i n bytes) ≡ n
length-copies i zero bytes = refl
length-copies i (suc n) bytes = ap suc (length-copies (suc i) n bytes)

pub get_copy : (i n : ℕ) (bytes : List ℕ) (j : ℕ) (d : RawPage) → j < n → get_or (copies i n bytes) j d ≡ copy (i + j) bytes
get_copy i zero bytes j d lt = absurd (omega arith)
get_copy i (suc n) bytes zero d lt = ap (λ (k : ℕ). copy k bytes) (omega arith)
get_copy i (suc n) bytes (suc j) d lt = get_copy (suc i) n bytes j d (omega arith) ∙ ap (λ (k : ℕ). copy k bytes) (omega arith)

pub get_number : (i n : ℕ) (head : List ℕ) (j : ℕ) → j < n → get_or (numbers i n head) j 0 ≡ number_in w32 head (2 + 4 * (i + j))
get_number i zero head j lt = absurd (omega arith)
get_number i (suc n) head zero lt = ap (λ (k : ℕ). number_in w32 head (2 + 4 * k)) (omega arith)
get_number i (suc n) head (suc j) lt = get_number (suc i) n head j (omega arith) ∙ ap (λ (k : ℕ). number_in w32 head (2 + 4 * k)) (omega arith)

-- the head is read behind its gate
number_behind : (head : List ℕ) (i : ℕ) → number_in w32 head (NUMBERS_AT + 4 * i) ≡ from_be_bytes w32 (take 4 (drop (1 + 4 * i) (drop 1 head)))
number_behind head i = ap (λ (l : List ℕ). from_be_bytes w32 (take 4 l)) (ap (λ (k : ℕ). drop k head) (omega arith) ∙ sym (drop-drop (1 + 4 * i) 1 head))

page_same : (a b : ℕ) (x y : List ℕ) → a ≡ b → x ≡ y → (let p : RawPage = record { dba = a; bytes = x } in let q : RawPage = record { dba = b; bytes = y } in p ≡ q)
page_same a b x y p q =
    let first : ℕ → RawPage = λ n. record { dba = n; bytes = x } in
    let second : List ℕ → RawPage = λ l. record { dba = b; bytes = l } in
    ap first p ∙ ap second q

-- the same behind the gate, and the same copies
module _ (old new : List ℕ) (head : drop 1 (block DOUBLE_WRITE_BLOCK new) ≡ drop 1 (block DOUBLE_WRITE_BLOCK old)) where
  number_same : (i : ℕ) → number_in w32 (block DOUBLE_WRITE_BLOCK new) (NUMBERS_AT + 4 * i) ≡ number_in w32 (block DOUBLE_WRITE_BLOCK old) (NUMBERS_AT + 4 * i)
  number_same i = number_behind (block DOUBLE_WRITE_BLOCK new) i ∙ ap (λ (l : List ℕ). from_be_bytes w32 (take 4 (drop (1 + 4 * i) l))) head ∙ sym (number_behind (block DOUBLE_WRITE_BLOCK old) i)

  count_same : slice_index (block DOUBLE_WRITE_BLOCK new) 1 ≡ slice_index (block DOUBLE_WRITE_BLOCK old) 1
  count_same = sym (get_or_after_one (block DOUBLE_WRITE_BLOCK new) 0 0) ∙ ap (λ (l : List ℕ). get_or l 0 0) head ∙ get_or_after_one (block DOUBLE_WRITE_BLOCK old) 0 0

  copies_same : (i n : ℕ) → ((j : ℕ) → j < i + n → block (FIRST_COPY + j) new ≡ block (FIRST_COPY + j) old) → copies i n new ≡ copies i n old
  copies_same i zero each = refl
  copies_same i (suc n) each =
      ap (λ (p : RawPage). p ∷ copies (suc i) n new) (page_same (number_in w32 (block DOUBLE_WRITE_BLOCK new) (NUMBERS_AT + 4 * i)) (number_in w32 (block DOUBLE_WRITE_BLOCK old) (NUMBERS_AT + 4 * i)) (block (FIRST_COPY + i) new) (block (FIRST_COPY + i) old) (number_same i) (each i (omega arith)))
      ∙ ap (λ (l : List RawPage). copy i old ∷ l) (copies_same (suc i) n (λ j lt. each j (omega arith)))

  pub copies_stay : (n : ℕ) → slice_index (block DOUBLE_WRITE_BLOCK old) 1 ≤ n → ((j : ℕ) → j < n → block (FIRST_COPY + j) new ≡ block (FIRST_COPY + j) old) → copies_of new ≡ copies_of old
  copies_stay n few each =
      ap (λ (k : ℕ). copies 0 k new) count_same ∙ copies_same 0 (slice_index (block DOUBLE_WRITE_BLOCK old) 1) (λ j lt. each j (omega arith))

-- the copies of a batch
copies_are : (bytes : List ℕ) (batch : List RawPage) (i : ℕ) → ((j : ℕ) (d : RawPage) → j < length batch → number_in w32 (block DOUBLE_WRITE_BLOCK bytes) (2 + 4 * (i + j)) ≡ (get_or batch j d).dba)
    → ((j : ℕ) (d : RawPage) → j < length batch → block (FIRST_COPY + (i + j)) bytes ≡ (get_or batch j d).bytes) → copies i (length batch) bytes ≡ batch
copies_are bytes [] i numbered there = refl
copies_are bytes (p ∷ batch) i numbered there =
    let number : number_in w32 (block DOUBLE_WRITE_BLOCK bytes) (NUMBERS_AT + 4 * i) ≡ p.dba = ap (λ (k : ℕ). number_in w32 (block DOUBLE_WRITE_BLOCK bytes) (2 + 4 * k)) (omega arith) ∙ numbered 0 p (omega arith) in
    let page : block (FIRST_COPY + i) bytes ≡ p.bytes = ap (λ (k : ℕ). block (FIRST_COPY + k) bytes) (omega arith) ∙ there 0 p (omega arith) in
    ap (λ (q : RawPage). q ∷ copies (suc i) (length batch) bytes) (page_same (number_in w32 (block DOUBLE_WRITE_BLOCK bytes) (NUMBERS_AT + 4 * i)) p.dba (block (FIRST_COPY + i) bytes) p.bytes number page)
    ∙ ap (λ (l : List RawPage). p ∷ l) (copies_are bytes batch (suc i)
    (λ j d lt. ap (λ (k : ℕ). number_in w32 (block DOUBLE_WRITE_BLOCK bytes) (2 + 4 * k)) (omega arith) ∙ numbered (suc j) d (omega arith))
    (λ j d lt. ap (λ (k : ℕ). block (FIRST_COPY + k) bytes) (omega arith) ∙ there (suc j) d (omega arith)))

-- the number of the j-th, among the bytes of all
number_at : (batch : List RawPage) (rest : List ℕ) (j : ℕ) (d : RawPage) → j < length batch → take 4 (drop (4 * j) (flat_map dba_bytes batch ++ rest)) ≡ dba_bytes (get_or batch j d)
number_at [] rest j d lt = absurd (omega arith)
number_at (p ∷ batch) rest zero d lt = ap (take 4) (append_assoc (dba_bytes p) (flat_map dba_bytes batch) rest) ∙ take_at (dba_bytes p) (flat_map dba_bytes batch ++ rest) 4 refl
number_at (p ∷ batch) rest (suc j) d lt =
    let split : drop (4 * suc j) (dba_bytes p ++ (flat_map dba_bytes batch ++ rest)) ≡ drop (4 * j) (flat_map dba_bytes batch ++ rest) =
    ap (λ (k : ℕ). drop k (dba_bytes p ++ (flat_map dba_bytes batch ++ rest))) (omega arith) ∙ sym (drop-drop (4 * j) 4 (dba_bytes p ++ (flat_map dba_bytes batch ++ rest))) ∙ ap (drop (4 * j)) (drop_at (dba_bytes p) (flat_map dba_bytes batch ++ rest) 4 refl) in
    ap (λ (l : List ℕ). take 4 (drop (4 * suc j) l)) (append_assoc (dba_bytes p) (flat_map dba_bytes batch) rest) ∙ ap (take 4) split ∙ number_at batch rest j d (omega arith)

module _ (bytes : List ℕ) (batch : List RawPage) (head : drop 1 (block DOUBLE_WRITE_BLOCK bytes) ≡ drop 1 (page_with (0 ∷ length batch ∷ flat_map dba_bytes batch))) where
  rest : List ℕ
  rest = replicate (BLOCK_SIZE - length (0 ∷ length batch ∷ flat_map dba_bytes batch)) 0

  pub read_back : ((j : ℕ) (d : RawPage) → j < length batch → (get_or batch j d).dba < 2 ^ 32) → ((j : ℕ) (d : RawPage) → j < length batch → block (FIRST_COPY + j) bytes ≡ (get_or batch j d).bytes) → copies_of bytes ≡ batch
  unfolding rest
  read_back small there =
      let count : slice_index (block DOUBLE_WRITE_BLOCK bytes) 1 ≡ length batch = sym (get_or_after_one (block DOUBLE_WRITE_BLOCK bytes) 0 0) ∙ ap (λ (l : List ℕ). get_or l 0 0) head in
      ap (λ (k : ℕ). copies 0 k bytes) count ∙ copies_are bytes batch 0 (λ j d lt. numbered j d lt) (λ j d lt. ap (λ (k : ℕ). block (FIRST_COPY + k) bytes) (omega arith) ∙ there j d lt)
    where
      numbered : (j : ℕ) (d : RawPage) → j < length batch → number_in w32 (block DOUBLE_WRITE_BLOCK bytes) (2 + 4 * (0 + j)) ≡ (get_or batch j d).dba
      numbered j d lt =
          ap (λ (k : ℕ). number_in w32 (block DOUBLE_WRITE_BLOCK bytes) (2 + 4 * k)) (omega arith)
          ∙ number_behind (block DOUBLE_WRITE_BLOCK bytes) j
          ∙ ap (λ (l : List ℕ). from_be_bytes w32 (take 4 (drop (1 + 4 * j) l))) head
          ∙ ap (λ (l : List ℕ). from_be_bytes w32 (take 4 l)) (ap (λ (k : ℕ). drop k (length batch ∷ (flat_map dba_bytes batch ++ rest))) (omega arith) ∙ sym (drop-drop (4 * j) 1 (length batch ∷ (flat_map dba_bytes batch ++ rest))))
          ∙ ap (from_be_bytes w32) (number_at batch rest j d lt)
          ∙ from_be_bytes-to_be_bytes_4 (get_or batch j d).dba (small j d lt)
