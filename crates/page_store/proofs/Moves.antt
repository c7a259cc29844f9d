-- The writes of a batch, one by one, over plain disks.
use Rattle.std.proofs.Common.{◌-◌, ◌≡◌, inl, inr, ⊎_elim, ℕ, ◌+◌, ◌*◌, ◌<◌, ◌≤◌, Bool, true, false, List, ◌∷◌, length, drop, get_or, sym, ◌∙◌, ap, subst, arith, flat_map, Result, OnOk}
use Rattle.seg_words.proofs.Lemmas.{cases_lt}
use Rattle.std.proofs.lemmas.List.{get_or_read}
use Rattle.seg_words.specs.Types.{Shape, BLOCK_SIZE, DOUBLE_WRITE_BLOCK, DOUBLE_WRITE_PAGES}
use Rattle.disk_model.specs.Types.{Files, content, put, written, Torn, TornFile, Meaning, Now, Elapses, Leaves, Untouched, OnlyFile, IsSettled, Settles, torn_written}
use Rattle.disk_model.specs.declared.disk.File.TheVariants.{Data}
use Rattle.disk_model.proofs.Lemmas.{on_ok, Running, run_started, run_write, run_written, run_looked, leaves_so, settles_so}
use Rattle.page_bytes.specs.Types.{page_of as page_with}
use Rattle.page_store.specs.Types.{part, block, copy, head_blocks, is_batch, HasPages, AsLong, IsPartRead, after, blocks_of, IsStore, IsShut, dba_bytes, IsCopied, IsOpened, InPlace, IsPlaced, RawPage, AREA_AT, AREA_END, COPIES_AT, FIRST_COPY}
use Rattle.page_store.proofs.Parts.{part_torn, part_written}
use Rattle.page_store.proofs.Heads.{sound_long}
use Rattle.page_store.proofs.Batch.{tested, by_recursion, limits}
use Rattle.page_store.proofs.Changes.{Stays, stays_all, stays_torn}
use Rattle.page_store.proofs.Stages.{has_area as has_whole_area, BesideArea, still_shut, copied, as_many, copy_item, copy_place, copy_bytes, BesideBatch, placing, placing_pages, page_stays, one_more}

-- a file that has the area has each copy whole
pub cut_short : (bytes page : List ℕ) (i : ℕ) (whole : Bool) → i < DOUBLE_WRITE_PAGES → AREA_END ≤ length bytes → whole ≡ false → IsPartRead (COPIES_AT + BLOCK_SIZE * i) bytes page whole → ⊥
cut_short bytes page i whole few long cut read =
    let short : length bytes < COPIES_AT + BLOCK_SIZE * i + BLOCK_SIZE = subst (IsPartRead (COPIES_AT + BLOCK_SIZE * i) bytes page) cut read in
    omega (arith, short, few, long)

-- pages to their blocks
module _ {D : Type 0} (meaning : Meaning D) (start : D) (batch : List RawPage) where
  abbrev old : List ℕ
  old = (meaning.files start).data_bytes

  abbrev E : List ℕ → Type 0
  E = Stays (BesideBatch batch) old

  pub places_started : IsSettled meaning start Data → Running meaning start start Data E (InPlace 0 batch)
  places_started settled = run_started meaning start Data E (InPlace 0 batch) settled (stays_all (BesideBatch batch) old) (λ j d lt. absurd (omega arith))

  module _ (shape : Shape) (pages : ℕ → List ℕ) (was : IsOpened shape pages batch old) where
    module _ (mid new : D) (i : ℕ) (p : RawPage) (at : ℕ) (bytes : List ℕ) (lt : i < length batch) (reads : p ≡ get_or batch i p) (place : at ≡ BLOCK_SIZE * p.dba) (same : bytes ≡ p.bytes) (run : Running meaning start mid Data E (InPlace i batch)) where
      stays : (b c : List ℕ) → E b → Torn at (length bytes) b c → E c
      stays b c is torn = page_stays shape pages batch old was i p lt reads b c is (subst (λ (l : List ℕ). Torn (BLOCK_SIZE * p.dba) (length l) b c) same (subst (λ (n : ℕ). Torn n (length bytes) b c) place torn))

      pub place_write : Elapses meaning mid new → ((image : Files) → Now meaning new image → (image_was : Files) × Now meaning mid image_was × TornFile Data at (length bytes) image_was image) → Leaves meaning start new (OnlyFile meaning start Data (AsLong old (HasPages shape (after batch pages))))
      place_write time crash = leaves_so meaning Data start new (AsLong old (HasPages shape (after batch pages))) E (run_write meaning start Data E mid new (InPlace i batch) at bytes run stays time crash).leaves (λ c is. record { long = is.long; is = placing_pages shape pages batch old c was is })

      pub place_more : Elapses meaning mid new → ((image : Files) → Now meaning new image → (image_was : Files) × Now meaning mid image_was × TornFile Data at (length bytes) image_was image)
          → (meaning.told mid → meaning.told new) → (meaning.told mid → meaning.files new ≡ put Data (written (content Data (meaning.files mid)) at bytes) (meaning.files mid)) → Running meaning start new Data E (InPlace (i + 1) batch)
      place_more time crash told made =
          let b = (meaning.files mid).data_bytes in
          let holds = one_more shape pages batch old was i p lt reads b run.reads run.holds in
          run_written meaning start Data E mid new (InPlace i batch) at bytes run stays (InPlace (i + 1) batch) time crash told made
          (subst (λ (n : ℕ). InPlace (i + 1) batch (written b n bytes)) (sym place) (subst (λ (l : List ℕ). InPlace (i + 1) batch (written b (BLOCK_SIZE * p.dba) l)) (sym same) holds))

    pub places_leave : (new : D) → Leaves meaning start new (OnlyFile meaning start Data E) → Leaves meaning start new (OnlyFile meaning start Data (AsLong old (HasPages shape (after batch pages))))
    places_leave new leaves = leaves_so meaning Data start new (AsLong old (HasPages shape (after batch pages))) E leaves (λ c is. record { long = is.long; is = placing_pages shape pages batch old c was is })

    pub places_settle : {T F : Type 0} (new : D) (i : ℕ) (r : Result T F) → length batch ≤ i → OnOk r (Settles meaning start new Data (λ (c : List ℕ). E c × InPlace i batch c)) → OnOk r (Settles meaning start new Data (AsLong old (IsPlaced shape pages batch)))
    places_settle new i r all = on_ok r (λ settles. settles_so meaning Data start new (λ (c : List ℕ). E c × InPlace i batch c) (AsLong old (IsPlaced shape pages batch)) settles (λ is. record { long = is.0.long; is = record { copies = (placing shape pages batch old _ was is.0).copies; in_place = λ j d lt. is.1 j d (omega arith) } }))

    -- a copy of the area to its block
    module _ (blocks : List ℕ) (named : blocks ≡ head_blocks (block DOUBLE_WRITE_BLOCK old)) (i : ℕ) (lt : i < length blocks) (mid looked : D) (run : Running meaning start mid Data E (InPlace i batch)) (look : Untouched meaning mid looked) where
      in_batch : i < length batch
      in_batch = omega (arith, lt, as_many shape pages batch old was blocks named)

      at_most : i < DOUBLE_WRITE_PAGES
      at_most = omega (arith, in_batch, (tested shape batch was.copies.places).few)

      run_on : Running meaning start looked Data E (InPlace i batch)
      run_on = run_looked meaning start Data E mid looked (InPlace i batch) run look

      pub looked_leave : Leaves meaning start looked (OnlyFile meaning start Data (AsLong old (HasPages shape (after batch pages))))
      looked_leave = places_leave looked run_on.so.leaves

      pub all_there : (page : List ℕ) (whole : Bool) → whole ≡ false → IsPartRead (COPIES_AT + BLOCK_SIZE * i) (meaning.files mid).data_bytes page whole → ⊥
      all_there page whole cut read = cut_short (meaning.files mid).data_bytes page i whole at_most (omega (arith, run.reads.long, has_whole_area shape pages batch old was.copies)) cut read

      module _ (page : List ℕ) (whole : Bool) (yes_whole : whole ≡ true) (read : IsPartRead (COPIES_AT + BLOCK_SIZE * i) (meaning.files mid).data_bytes page whole) (block_read : ℕ) (is_block : block_read ≡ get_or blocks i 0) where
        same_page : page ≡ (copy i old).bytes
        same_page =
            let found : (COPIES_AT + BLOCK_SIZE * i + BLOCK_SIZE ≤ length (meaning.files mid).data_bytes) × (page ≡ part (COPIES_AT + BLOCK_SIZE * i) BLOCK_SIZE (meaning.files mid).data_bytes) = subst (IsPartRead (COPIES_AT + BLOCK_SIZE * i) (meaning.files mid).data_bytes page) yes_whole read in
            copy_bytes shape pages batch old was blocks named i in_batch (meaning.files mid).data_bytes page run.reads found.1

        place : BLOCK_SIZE * block_read ≡ BLOCK_SIZE * (copy i old).dba
        place = ap (λ (n : ℕ). BLOCK_SIZE * n) (is_block ∙ copy_place shape pages batch old was blocks named i in_batch)

        module _ (new : D) (time : Elapses meaning looked new) (crash : (image : Files) → Now meaning new image → (image_was : Files) × Now meaning looked image_was × TornFile Data (BLOCK_SIZE * block_read) (length page) image_was image) where
          pub place_copy : Leaves meaning start new (OnlyFile meaning start Data (AsLong old (HasPages shape (after batch pages))))
          place_copy = place_write looked new i (copy i old) (BLOCK_SIZE * block_read) page in_batch (copy_item shape pages batch old was blocks named i in_batch) place same_page run_on time crash

          pub more_copies : (meaning.told looked → meaning.told new) → (meaning.told looked → meaning.files new ≡ put Data (written (content Data (meaning.files looked)) (BLOCK_SIZE * block_read) page) (meaning.files looked)) → Running meaning start new Data E (InPlace (i + 1) batch)
          more_copies told made = place_more looked new i (copy i old) (BLOCK_SIZE * block_read) page in_batch (copy_item shape pages batch old was blocks named i in_batch) place same_page run_on time crash told made

-- a batch into the area: its head is there, and the first copies
pub record Copying (batch : List RawPage) (n : ℕ) (bytes : List ℕ) : Type 0 where
  pub head : part (AREA_AT + 1) (BLOCK_SIZE - 1) bytes ≡ drop 1 (page_with (0 ∷ length batch ∷ flat_map dba_bytes batch))
  pub there : (j : ℕ) (d : RawPage) → j < n → block (FIRST_COPY + j) bytes ≡ (get_or batch j d).bytes
  pub whole : (j : ℕ) (d : RawPage) → j < n → length (get_or batch j d).bytes ≡ BLOCK_SIZE

module _ {D : Type 0} (meaning : Meaning D) (start : D) (batch : List RawPage) (shape : Shape) (pages : ℕ → List ℕ) (was : IsStore meaning start shape pages) where
  abbrev before : List ℕ
  before = (meaning.files start).data_bytes

  abbrev A : List ℕ → Type 0
  A = Stays BesideArea before

  abbrev Any : List ℕ → Type 0
  Any bytes = Unit {0}

  has_area : AREA_END ≤ length before
  has_area = sound_long shape before was.file.has.area

  pub copies_started : Running meaning start start Data A Any
  copies_started = run_started meaning start Data A Any was.settled (stays_all BesideArea before) tt

  area_stays : (at m : ℕ) → AREA_AT + 1 ≤ at → at + m ≤ AREA_END → (b c : List ℕ) → A b → Torn at m b c → A c
  area_stays at m low high b c is torn = stays_torn BesideArea at m before b c (omega (arith, has_area)) (λ k n apart. ⊎_elim (λ le. inl (omega arith)) (λ le. inr (omega arith)) apart) is torn

  pub shut_leave : (new : D) → Leaves meaning start new (OnlyFile meaning start Data A) → Leaves meaning start new (OnlyFile meaning start Data (AsLong before (IsShut shape pages)))
  shut_leave new leaves = leaves_so meaning Data start new (AsLong before (IsShut shape pages)) A leaves (λ c is. record { long = is.long; is = still_shut shape pages before c was.file is })

  -- its head
  module _ (mid new : D) (bytes : List ℕ) (head : bytes ≡ drop 1 (page_with (0 ∷ length batch ∷ flat_map dba_bytes batch))) (long : length bytes ≡ (BLOCK_SIZE - 1)) (run : Running meaning start mid Data A Any) (time : Elapses meaning mid new)
      (crash : (image : Files) → Now meaning new image → (image_was : Files) × Now meaning mid image_was × TornFile Data (AREA_AT + 1) (length bytes) image_was image) where
    pub head_write : Leaves meaning start new (OnlyFile meaning start Data (AsLong before (IsShut shape pages)))
    head_write = shut_leave new (run_write meaning start Data A mid new Any (AREA_AT + 1) bytes run (area_stays (AREA_AT + 1) (length bytes) (omega arith) (omega (arith, long))) time crash).leaves

    pub head_more : (meaning.told mid → meaning.told new) → (meaning.told mid → meaning.files new ≡ put Data (written (content Data (meaning.files mid)) (AREA_AT + 1) bytes) (meaning.files mid)) → Running meaning start new Data A (Copying batch 0)
    head_more told made =
        let b = (meaning.files mid).data_bytes in
        run_written meaning start Data A mid new Any (AREA_AT + 1) bytes run (area_stays (AREA_AT + 1) (length bytes) (omega arith) (omega (arith, long))) (Copying batch 0) time crash told made (record {
          head = ap (λ (n : ℕ). part (AREA_AT + 1) n (written b (AREA_AT + 1) bytes)) (sym long) ∙ part_written b bytes (AREA_AT + 1) (omega (arith, has_area, run.reads.long)) ∙ head;
          there = λ j d lt. absurd (omega arith);
          whole = λ j d lt. absurd (omega arith);
        })

  -- one copy
  module _ (mid new : D) (i : ℕ) (p : RawPage) (at : ℕ) (bytes : List ℕ) (lt : i < length batch) (few : length batch ≤ DOUBLE_WRITE_PAGES) (reads : p ≡ get_or batch i p) (place : at ≡ COPIES_AT + BLOCK_SIZE * i) (same : bytes ≡ p.bytes) (long : length p.bytes ≡ BLOCK_SIZE)
      (run : Running meaning start mid Data A (Copying batch i)) (time : Elapses meaning mid new) (crash : (image : Files) → Now meaning new image → (image_was : Files) × Now meaning mid image_was × TornFile Data at (length bytes) image_was image) where
    size : length bytes ≡ BLOCK_SIZE
    size = ap length same ∙ long

    pub copy_write : Leaves meaning start new (OnlyFile meaning start Data (AsLong before (IsShut shape pages)))
    copy_write = shut_leave new (run_write meaning start Data A mid new (Copying batch i) at bytes run (area_stays at (length bytes) (omega arith) (omega (arith, size, lt, few, place))) time crash).leaves

    pub copy_more : (meaning.told mid → meaning.told new) → (meaning.told mid → meaning.files new ≡ put Data (written (content Data (meaning.files mid)) at bytes) (meaning.files mid)) → Running meaning start new Data A (Copying batch (i + 1))
    copy_more told made =
        run_written meaning start Data A mid new (Copying batch i) at bytes run (area_stays at (length bytes) (omega arith) (omega (arith, size, lt, few, place))) (Copying batch (i + 1)) time crash told made
        (copied_one (meaning.files mid).data_bytes run.holds (omega (arith, run.reads.long, has_area)))
      where
        item : (d : RawPage) → p ≡ get_or batch i d
        item d = get_or_read batch i p lt reads d

        copied_one : (b : List ℕ) → Copying batch i b → AREA_END ≤ length b → Copying batch (i + 1) (written b at bytes)
        copied_one b so_far area =
            let torn = torn_written b bytes at in
            record {
              head = part_torn at (length bytes) (AREA_AT + 1) (BLOCK_SIZE - 1) b (written b at bytes) torn (omega (arith, place, lt, few)) (inl (omega arith)) ∙ so_far.head;
              there = λ j d le. elim (cases_lt j i) [
                | inl less ↦ part_torn at (length bytes) (BLOCK_SIZE * (FIRST_COPY + j)) BLOCK_SIZE b (written b at bytes) torn (omega (arith, place, lt, few)) (inl (omega (arith, place, less))) ∙ so_far.there j d less
                | inr ge ↦ (
                    let here : j ≡ i = omega arith in
                    let first : part at (length bytes) (written b at bytes) ≡ bytes = part_written b bytes at (omega (arith, place, lt, few)) in
                    let where_it_is : BLOCK_SIZE * (FIRST_COPY + j) ≡ at = omega (arith, here, place) in
                    ap (λ (n : ℕ). part n BLOCK_SIZE (written b at bytes)) where_it_is ∙ ap (λ (n : ℕ). part at n (written b at bytes)) (sym size) ∙ first ∙ same ∙ ap (λ (q : RawPage). q.bytes) (item d) ∙ ap (λ (n : ℕ). (get_or batch n d).bytes) (sym here)
                    )
              ];
              whole = λ j d le. elim (cases_lt j i) [
                | inl less ↦ so_far.whole j d less
                | inr ge ↦ (let here : j ≡ i = omega arith in ap (λ (n : ℕ). length (get_or batch n d).bytes) here ∙ ap (λ (q : RawPage). length q.bytes) (sym (item d)) ∙ long)
              ];
            }

  pub copies_settle : {T F : Type 0} (new : D) (i : ℕ) (r : Result T F) → is_batch shape (blocks_of batch) ≡ true → length batch ≤ i → OnOk r (Settles meaning start new Data (λ (c : List ℕ). A c × Copying batch i c)) → OnOk r (Settles meaning start new Data (AsLong before (IsCopied shape pages batch)))
  copies_settle new i r places all = on_ok r (λ settles. settles_so meaning Data start new (λ (c : List ℕ). A c × Copying batch i c) (AsLong before (IsCopied shape pages batch)) settles (λ is. record {
    long = is.0.long;
    is =
        copied shape pages batch before _ places (by_recursion (λ (p : RawPage). length p.bytes ≡ BLOCK_SIZE) batch (λ j d lt. is.1.whole j d (omega arith))) was.file is.0 is.1.head (λ j d lt. is.1.there j d (omega arith)) (limits shape was.file.has.within).1;
  }))
