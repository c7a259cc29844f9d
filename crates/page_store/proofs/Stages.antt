-- What the file reads as at each stage of a batch.
use Rattle.std.proofs.Common.{◌-◌, ◌≡◌, ◌≢◌, ◌⊎◌, inl, inr, ⊎_elim, ℕ, ◌+◌, ◌*◌, ◌^◌, ◌<◌, ◌≤◌, Bool, true, cond, List, [], ◌∷◌, length, drop, get_or, slice_index, refl, sym, ◌∙◌, ap, subst, arith, w32, flat_map, length-take, length-drop}
use Rattle.seg_words.specs.Types.{number_in, Shape, BLOCK_SIZE, DOUBLE_WRITE_BLOCK, DOUBLE_WRITE_PAGES, MOST_BLOCKS}
use Rattle.std.proofs.lemmas.List.{get_or_read}
use Rattle.seg_words.proofs.Lemmas.{cases_eq, cases_order, cases_lt}
use Rattle.page_bytes.specs.Types.{page_of as page_with}
use Rattle.disk_model.specs.Types.{written, Torn, torn_written}
use Rattle.page_store.specs.Types.{part, block, gate, copy, copies_of, head_blocks, page_in, page_of, is_place, is_batch, HasPages, blocks_of, after, IsShut, WholeOrNot, dba_bytes, IsNotIn, AreWhole, HasCopies, IsCopied, IsOpened, InPlace, IsPlaced, RawPage, AREA_AT, AREA_END, COPIES_AT, FIRST_COPY, NUMBERS_AT}
use Rattle.page_store.proofs.Parts.{part_torn, part_written}
use Rattle.page_store.proofs.Heads.{length-numbers, sound_shut, sound_open, sound_long, is_same, differs}
use Rattle.page_store.proofs.Changes.{Stays, Beside, stays_torn, torn_stays, behind_gate, gate_part}
use Rattle.page_store.proofs.Batch.{limits, by_recursion, to_index, IsOutside, outside, tested, page_else, page_none, page_twice, page_placed}
use Rattle.page_store.proofs.Copies.{length-copies, get_copy, get_number, blocks_named, copies_stay, read_back}

-- the pages by the gate
pub page_shut : (bytes : List ℕ) (b : ℕ) → gate bytes ≢ 1 → page_of bytes b ≡ block b bytes
page_shut bytes b shut = ap (λ (t : Bool). cond t (page_in (copies_of bytes) b (block b bytes)) (block b bytes)) (differs (gate bytes) 1 shut)

pub page_open : (bytes : List ℕ) (b : ℕ) → gate bytes ≡ 1 → page_of bytes b ≡ page_in (copies_of bytes) b (block b bytes)
page_open bytes b one = ap (λ (t : Bool). cond t (page_in (copies_of bytes) b (block b bytes)) (block b bytes)) (is_same (gate bytes) 1 one)

-- outside the area
abbrev pub BesideArea : ℕ → ℕ → Type 0
BesideArea = Beside (AREA_AT + 1) (AREA_END - AREA_AT - 1)

-- outside the blocks of a batch
abbrev pub BesideBatch : List RawPage → ℕ → ℕ → Type 0
BesideBatch batch k n = (j : ℕ) (d : RawPage) → j < length batch → Beside (BLOCK_SIZE * (get_or batch j d).dba) BLOCK_SIZE k n

module _ (shape : Shape) (pages : ℕ → List ℕ) where
  block_apart : (b : ℕ) → is_place shape b ≡ true → BesideArea (BLOCK_SIZE * b) BLOCK_SIZE
  block_apart b place = ⊎_elim (λ le. inl (omega arith)) (λ le. inr (omega arith)) (outside shape b place).apart

  gate_apart : (b : ℕ) → is_place shape b ≡ true → Beside AREA_AT 1 (BLOCK_SIZE * b) BLOCK_SIZE
  gate_apart b place = ⊎_elim (λ le. inl (omega arith)) (λ le. inr (omega arith)) (outside shape b place).apart

  -- while the area is written
  pub still_shut : (old c : List ℕ) → IsShut shape pages old → Stays BesideArea old c → IsShut shape pages c
  still_shut old c was stays =
      let same_gate : gate c ≡ gate old = gate_part c ∙ ap (λ (l : List ℕ). get_or l 0 0) (stays.same AREA_AT 1 (inl (omega arith))) ∙ sym (gate_part old) in
      let shut : gate c ≢ 1 = λ one. was.shut (sym same_gate ∙ one) in
      let long = sound_long shape old was.has.area in
      record {
        has = record {
          within = was.has.within;
          long = omega (arith, was.has.long, stays.long);
          area = sound_shut shape c (omega (arith, long, stays.long)) shut;
          each = λ b place. page_shut c b shut ∙ stays.same (BLOCK_SIZE * b) BLOCK_SIZE (block_apart b place) ∙ sym (page_shut old b was.shut) ∙ was.has.each b place;
        };
        shut = shut;
      }

  -- the copies are there
  pub copied : (batch : List RawPage) (old c : List ℕ) → is_batch shape (blocks_of batch) ≡ true → AreWhole batch → IsShut shape pages old → Stays BesideArea old c
      → part (AREA_AT + 1) (BLOCK_SIZE - 1) c ≡ drop 1 (page_with (0 ∷ length batch ∷ flat_map dba_bytes batch)) → ((j : ℕ) (d : RawPage) → j < length batch → block (FIRST_COPY + j) c ≡ (get_or batch j d).bytes)
      → shape.blocks ≤ MOST_BLOCKS → IsCopied shape pages batch c
  copied batch old c places whole was stays head there limit =
      let is = tested shape batch places in
      let small : (j : ℕ) (d : RawPage) → j < length batch → (get_or batch j d).dba < 2 ^ 32 = λ j d lt. omega (arith, (is.places j d lt).within, limit) in
      record {
        copies = record {
          within = was.has.within;
          long = omega (arith, was.has.long, stays.long);
          places = places;
          whole = whole;
          copies = read_back c batch (sym (behind_gate c) ∙ head) small there;
          others = λ b place none. stays.same (BLOCK_SIZE * b) BLOCK_SIZE (block_apart b place) ∙ sym (page_shut old b was.shut) ∙ was.has.each b place;
        };
        before = still_shut old c was stays;
      }

  module _ (batch : List RawPage) where
    -- through an open gate
    pub through_gate : (c : List ℕ) → HasCopies shape pages batch c → AREA_END ≤ length c → gate c ≡ 1 → HasPages shape (after batch pages) c
    through_gate c is long one = record {
      within = is.within;
      long = is.long;
      area = sound_open shape c long one ∙ ap (is_batch shape) (sym (blocks_named c) ∙ ap blocks_of is.copies) ∙ is.places;
      each = λ b place. page_open c b one ∙ ap (λ (l : List RawPage). page_in l b (block b c)) is.copies ∙ page_else b batch (block b c) (pages b) (λ none. is.others b place none);
    }

    -- once they stand in their blocks, the gate makes no difference
    pub either_way : (c : List ℕ) → IsPlaced shape pages batch c → AREA_END ≤ length c → HasPages shape (after batch pages) c
    either_way c is long = elim (cases_eq (gate c) 1) [
      | inl one ↦ through_gate c is.copies long one
      | inr shut ↦ placed_shut c is long shut
    ]
      where
        placed_shut : (bytes : List ℕ) → IsPlaced shape pages batch bytes → AREA_END ≤ length bytes → gate bytes ≢ 1 → HasPages shape (after batch pages) bytes
        placed_shut bytes is long shut = record {
          within = is.copies.within;
          long = is.copies.long;
          area = sound_shut shape bytes long shut;
          each = λ b place. page_shut bytes b shut ∙ page_placed b batch (λ (n : ℕ). block n bytes) (pages b) (by_recursion (λ (p : RawPage). block p.dba bytes ≡ p.bytes) batch is.in_place) (λ none. is.copies.others b place none);
        }

    pub has_area : (c : List ℕ) → HasCopies shape pages batch c → AREA_END ≤ length c
    has_area c is = omega (arith, (limits shape is.within).0, is.long)

    few : (c : List ℕ) → HasCopies shape pages batch c → slice_index (block DOUBLE_WRITE_BLOCK c) 1 ≤ DOUBLE_WRITE_PAGES
    few c is = omega (arith, length-copies 0 (slice_index (block DOUBLE_WRITE_BLOCK c) 1) c, ap length is.copies, (tested shape batch is.places).few)

    -- whatever leaves the area behind its gate and the other blocks as they are
    still_copies : (P : ℕ → ℕ → Type 0) (a c : List ℕ) → HasCopies shape pages batch a → Stays P a c → P (AREA_AT + 1) (BLOCK_SIZE - 1) → ((j : ℕ) → j < DOUBLE_WRITE_PAGES → P (BLOCK_SIZE * (FIRST_COPY + j)) BLOCK_SIZE)
        → ((b : ℕ) → is_place shape b ≡ true → IsNotIn b batch → P (BLOCK_SIZE * b) BLOCK_SIZE) → HasCopies shape pages batch c
    still_copies P a c is stays head area rest = record {
      within = is.within;
      long = omega (arith, is.long, stays.long);
      places = is.places;
      whole = is.whole;
      copies = copies_stay a c (sym (behind_gate c) ∙ stays.same (AREA_AT + 1) (BLOCK_SIZE - 1) head ∙ behind_gate a) DOUBLE_WRITE_PAGES (few a is) (λ j lt. stays.same (BLOCK_SIZE * (FIRST_COPY + j)) BLOCK_SIZE (area j lt)) ∙ is.copies;
      others = λ b place none. stays.same (BLOCK_SIZE * b) BLOCK_SIZE (rest b place none) ∙ is.others b place none;
    }

    at_gate : (a c : List ℕ) → HasCopies shape pages batch a → Stays (Beside AREA_AT 1) a c → HasCopies shape pages batch c
    at_gate a c is stays = still_copies (Beside AREA_AT 1) a c is stays (inr (omega arith)) (λ j lt. inr (omega arith)) (λ b place none. gate_apart b place)

    pub gate_torn : (a c : List ℕ) → HasCopies shape pages batch a → Torn AREA_AT 1 a c → Stays (Beside AREA_AT 1) a c
    gate_torn a c is torn = torn_stays AREA_AT 1 a c (omega (arith, has_area a is)) torn

    -- the gate once it was written
    gate_written : (a : List ℕ) (value : ℕ) → HasCopies shape pages batch a → gate (written a AREA_AT (value ∷ [])) ≡ value
    gate_written a value is = gate_part (written a AREA_AT (value ∷ [])) ∙ ap (λ (l : List ℕ). get_or l 0 0) (part_written a (value ∷ []) AREA_AT (omega (arith, has_area a is)))

    -- while the gate is opened
    pub opening : (a c : List ℕ) → IsCopied shape pages batch a → Torn AREA_AT 1 a c → WholeOrNot shape pages batch c
    opening a c was torn =
        let stays = gate_torn a c was.copies torn in
        let is = at_gate a c was.copies stays in
        elim (cases_eq (gate c) 1) [
          | inl one ↦ inr (through_gate c is (has_area c is) one)
          | inr shut ↦ inl (record {
            within = is.within;
            long = is.long;
            area = sound_shut shape c (has_area c is) shut;
            each = λ b place. page_shut c b shut ∙ stays.same (BLOCK_SIZE * b) BLOCK_SIZE (gate_apart b place) ∙ sym (page_shut a b was.before.shut) ∙ was.before.has.each b place;
          })
        ]

    pub opened : (a : List ℕ) → IsCopied shape pages batch a → IsOpened shape pages batch (written a AREA_AT (1 ∷ []))
    opened a was = record {
      copies = at_gate a _ was.copies (gate_torn a _ was.copies (torn_written a (1 ∷ []) AREA_AT));
      one = gate_written a 1 was.copies;
    }

    -- a block of the batch
    block_of : (c : List ℕ) → HasCopies shape pages batch c → (j : ℕ) (d : RawPage) → j < length batch → IsOutside shape (get_or batch j d).dba
    block_of c is = (tested shape batch is.places).places

    -- while its pages are written to their blocks
    pub placing : (a c : List ℕ) → IsOpened shape pages batch a → Stays (BesideBatch batch) a c → IsOpened shape pages batch c
    placing a c was stays = record {
      copies = still_copies (BesideBatch batch) a c was.copies stays
          (λ j d lt. ⊎_elim (λ le. inr (omega arith)) (λ le. inl (omega arith)) (block_of a was.copies j d lt).apart)
          (λ i less j d lt. ⊎_elim (λ le. inr (omega arith)) (λ le. inl (omega arith)) (block_of a was.copies j d lt).apart)
          (λ b place none j d lt. apart b (get_or batch j d).dba (to_index (λ (p : RawPage). p.dba ≢ b) batch none j d lt));
      one = gate_part c ∙ ap (λ (l : List ℕ). get_or l 0 0) (stays.same AREA_AT 1 (λ j d lt. ⊎_elim (λ le. inr (omega arith)) (λ le. inl (omega arith)) (block_of a was.copies j d lt).apart)) ∙ sym (gate_part a) ∙ was.one;
    }
      where
        apart : (b n : ℕ) → n ≢ b → (BLOCK_SIZE * b + BLOCK_SIZE ≤ BLOCK_SIZE * n) ⊎ (BLOCK_SIZE * n + BLOCK_SIZE ≤ BLOCK_SIZE * b)
        apart b n other = elim (cases_order b n) [ inl same ↦ absurd (other (sym same)) | inr (inl less) ↦ inl (omega arith) | inr (inr more) ↦ inr (omega arith) ]

    pub placing_pages : (a c : List ℕ) → IsOpened shape pages batch a → Stays (BesideBatch batch) a c → HasPages shape (after batch pages) c
    placing_pages a c was stays = let is = placing a c was stays in through_gate c is.copies (has_area c is.copies) is.one

    -- while the gate is closed
    at_gate_placed : (a c : List ℕ) → IsPlaced shape pages batch a → Stays (Beside AREA_AT 1) a c → IsPlaced shape pages batch c
    at_gate_placed a c was stays = record {
      copies = at_gate a c was.copies stays;
      in_place = λ j d lt. stays.same (BLOCK_SIZE * (get_or batch j d).dba) BLOCK_SIZE (⊎_elim (λ le. inl (omega arith)) (λ le. inr (omega arith)) (block_of a was.copies j d lt).apart) ∙ was.in_place j d lt;
    }

    pub closing : (a c : List ℕ) → IsPlaced shape pages batch a → Torn AREA_AT 1 a c → HasPages shape (after batch pages) c
    closing a c was torn = let is = at_gate_placed a c was (gate_torn a c was.copies torn) in either_way c is (has_area c is.copies)

    pub closed : (a : List ℕ) → IsPlaced shape pages batch a → IsShut shape (after batch pages) (written a AREA_AT (0 ∷ []))
    closed a was = record {
      has = closing a (written a AREA_AT (0 ∷ [])) was (torn_written a (0 ∷ []) AREA_AT);
      shut = λ one. absurd (omega (arith, gate_written a 0 was.copies, one));
    }

    -- one page more in its block
    module _ (old : List ℕ) (was : IsOpened shape pages batch old) (i : ℕ) (p : RawPage) (lt : i < length batch) (reads : p ≡ get_or batch i p) where
      item : (d : RawPage) → p ≡ get_or batch i d
      item d = get_or_read batch i p lt reads d

      whole_page : length p.bytes ≡ BLOCK_SIZE
      whole_page = ap (λ (q : RawPage). length q.bytes) (item p) ∙ to_index (λ (q : RawPage). length q.bytes ≡ BLOCK_SIZE) batch was.copies.whole i p lt

      fits : BLOCK_SIZE * p.dba + BLOCK_SIZE ≤ length old
      fits =
          let within = (block_of old was.copies i p lt).within in
          let here : p.dba < shape.blocks = subst (λ (q : RawPage). q.dba < shape.blocks) (sym (item p)) within in
          omega (arith, here, was.copies.long)

      pub page_stays : (b c : List ℕ) → Stays (BesideBatch batch) old b → Torn (BLOCK_SIZE * p.dba) (length p.bytes) b c → Stays (BesideBatch batch) old c
      page_stays b c so_far torn =
          stays_torn (BesideBatch batch) (BLOCK_SIZE * p.dba) (length p.bytes) old b c (omega (arith, fits, whole_page))
          (λ k n is.
          let here : Beside (BLOCK_SIZE * p.dba) BLOCK_SIZE k n = subst (λ (q : RawPage). Beside (BLOCK_SIZE * q.dba) BLOCK_SIZE k n) (sym (item p)) (is i p lt) in
          subst (λ (m : ℕ). Beside (BLOCK_SIZE * p.dba) m k n) (sym whole_page) here)
          so_far torn

      pub one_more : (b : List ℕ) → Stays (BesideBatch batch) old b → InPlace i batch b → InPlace (i + 1) batch (written b (BLOCK_SIZE * p.dba) p.bytes)
      one_more b stays so_far j d le = elim (cases_lt j i) [
        | inl before ↦ (
            let apart = (tested shape batch was.copies.places).apart j i d before lt in
            let differs : (get_or batch j d).dba ≢ p.dba = λ same. apart (same ∙ ap (λ (q : RawPage). q.dba) (item d)) in
            part_torn (BLOCK_SIZE * p.dba) (length p.bytes) (BLOCK_SIZE * (get_or batch j d).dba) BLOCK_SIZE b (written b (BLOCK_SIZE * p.dba) p.bytes) (torn_written b p.bytes (BLOCK_SIZE * p.dba)) (omega (arith, fits, stays.long)) (either (get_or batch j d).dba differs) ∙ so_far j d before
            )
        | inr here ↦ (
            let same : j ≡ i = omega arith in
            let placed : block p.dba (written b (BLOCK_SIZE * p.dba) p.bytes) ≡ p.bytes = ap (λ (n : ℕ). part (BLOCK_SIZE * p.dba) n (written b (BLOCK_SIZE * p.dba) p.bytes)) (sym whole_page) ∙ part_written b p.bytes (BLOCK_SIZE * p.dba) (omega (arith, fits, stays.long)) in
            subst (λ (n : ℕ). block (get_or batch n d).dba (written b (BLOCK_SIZE * p.dba) p.bytes) ≡ (get_or batch n d).bytes) (sym same)
            (subst (λ (q : RawPage). block q.dba (written b (BLOCK_SIZE * p.dba) p.bytes) ≡ q.bytes) (item d) placed)
            )
      ]
        where
          either : (n : ℕ) → n ≢ p.dba → (BLOCK_SIZE * n + BLOCK_SIZE ≤ BLOCK_SIZE * p.dba) ⊎ (BLOCK_SIZE * p.dba + length p.bytes ≤ BLOCK_SIZE * n)
          either n other = elim (cases_order n p.dba) [
            | inl same ↦ absurd (other same)
            | inr (inl less) ↦ inl (omega arith)
            | inr (inr more) ↦ inr (omega (arith, whole_page))
          ]

    -- a copy that was read
    module _ (old : List ℕ) (was : IsOpened shape pages batch old) (blocks : List ℕ) (named : blocks ≡ head_blocks (block DOUBLE_WRITE_BLOCK old)) where
      pub as_many : length blocks ≡ length batch
      as_many = ap length named ∙ length-numbers 0 (slice_index (block DOUBLE_WRITE_BLOCK old) 1) (block DOUBLE_WRITE_BLOCK old) ∙ sym (length-copies 0 (slice_index (block DOUBLE_WRITE_BLOCK old) 1) old) ∙ ap length was.copies.copies

      module _ (i : ℕ) (lt : i < length batch) where
        of_head : i < slice_index (block DOUBLE_WRITE_BLOCK old) 1
        of_head = omega (arith, lt, ap length was.copies.copies, length-copies 0 (slice_index (block DOUBLE_WRITE_BLOCK old) 1) old)

        pub copy_item : copy i old ≡ get_or batch i (copy i old)
        copy_item = sym (get_copy 0 (slice_index (block DOUBLE_WRITE_BLOCK old) 1) old i (copy i old) of_head ∙ ap (λ (k : ℕ). copy k old) (omega arith)) ∙ ap (λ (l : List RawPage). get_or l i (copy i old)) was.copies.copies

        pub copy_place : get_or blocks i 0 ≡ (copy i old).dba
        copy_place = ap (λ (l : List ℕ). get_or l i 0) named ∙ get_number 0 (slice_index (block DOUBLE_WRITE_BLOCK old) 1) (block DOUBLE_WRITE_BLOCK old) i of_head ∙ ap (λ (k : ℕ). number_in w32 (block DOUBLE_WRITE_BLOCK old) (NUMBERS_AT + 4 * k)) (omega arith)

        pub copy_bytes : (b page : List ℕ) → Stays (BesideBatch batch) old b → page ≡ part (COPIES_AT + BLOCK_SIZE * i) BLOCK_SIZE b → page ≡ (copy i old).bytes
        copy_bytes b page stays is =
            let at_most : i < DOUBLE_WRITE_PAGES = omega (arith, lt, (tested shape batch was.copies.places).few) in
            is ∙ ap (λ (n : ℕ). part n BLOCK_SIZE b) (omega arith)
            ∙ stays.same (BLOCK_SIZE * (FIRST_COPY + i)) BLOCK_SIZE (λ j d less. ⊎_elim (λ le. inr (omega arith)) (λ le. inl (omega arith)) (block_of old was.copies j d less).apart)

  -- a file whose gate is open has its own copies
  pub own_copies : (c : List ℕ) → HasPages shape pages c → gate c ≡ 1 → IsOpened shape pages (copies_of c) c
  own_copies c is one =
      let n = slice_index (block DOUBLE_WRITE_BLOCK c) 1 in
      let long = sound_long shape c is.area in
      let places = ap (is_batch shape) (blocks_named c) ∙ sym (sound_open shape c long one) ∙ is.area in
      let at_most : n ≤ DOUBLE_WRITE_PAGES = omega (arith, (tested shape (copies_of c) places).few, length-copies 0 n c) in
      record {
        copies = record {
          within = is.within;
          long = is.long;
          places = places;
          whole = by_recursion (λ (p : RawPage). length p.bytes ≡ BLOCK_SIZE) (copies_of c) (λ j d lt. ap (λ (p : RawPage). length p.bytes) (get_copy 0 n c j d (omega (arith, lt, length-copies 0 n c))) ∙ whole_block (0 + j) c (omega (arith, lt, length-copies 0 n c, at_most, long)));
          copies = refl;
          others = λ b place none. sym (page_none b (copies_of c) (block b c) none) ∙ sym (page_open c b one) ∙ is.each b place;
        };
        one = one;
      }
    where
      whole_block : (j : ℕ) (bytes : List ℕ) → BLOCK_SIZE * (FIRST_COPY + j) + BLOCK_SIZE ≤ length bytes → length (block (FIRST_COPY + j) bytes) ≡ BLOCK_SIZE
      whole_block j bytes le = omega (arith, length-take BLOCK_SIZE (drop (BLOCK_SIZE * (FIRST_COPY + j)) bytes), length-drop (BLOCK_SIZE * (FIRST_COPY + j)) bytes)

  -- and with them in their blocks it reads as before
  pub same_pages : (c x : List ℕ) → HasPages shape pages c → gate c ≡ 1 → HasPages shape (after (copies_of c) pages) x → HasPages shape pages x
  same_pages c x is one new = record {
    within = new.within;
    long = new.long;
    area = new.area;
    each = λ b place.
        let here : pages b ≡ page_in (copies_of c) b (block b c) = sym (is.each b place) ∙ page_open c b one in
        new.each b place ∙ ap (page_in (copies_of c) b) here ∙ page_twice b (copies_of c) (block b c) ∙ sym here;
  }
