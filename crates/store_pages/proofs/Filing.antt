-- Data files whose pages are folds: new ones, and those whose log has more records or fewer.
use Rattle.std.proofs.Common.{◌≡◌, ℕ, ◌+◌, ◌-◌, ◌*◌, ◌<◌, ◌≤◌, Bool, true, false, not, ◌&&◌, ◌||◌, ◌==◌, eqb, nat_lt, nat_le, if◌then◌else◌, List, length, take, drop, replicate, slice_index, refl, sym, ap, subst, arith, ◌∙◌, ltb-true, le-leb}
use Rattle.std.proofs.lemmas.Bool.{true≢false}
use Rattle.std.proofs.lemmas.List.{drop-replicate, drop-take, length-take, take-replicate, take-take}
use Rattle.seg_words.specs.Types.{Shape, BLOCK_SIZE, DOUBLE_WRITE_BLOCK, is_shape}
use Rattle.seg_words.proofs.Lemmas.{length-replicate}
use Rattle.redo_record.specs.declared.record.Record.{Record}
use Rattle.redo_model.specs.Lists.{prefix, Extends}
use Rattle.page_store.specs.declared.area.TheConstants.{AREA_END}
use Rattle.page_store.specs.Types.{block, copies_of, gate, is_batch, is_place, head_blocks, is_sound_area, page_in}
use Rattle.page_store.specs.Pages.{page_of as filed}
use Rattle.page_store.proofs.Batch.{limits}
use Rattle.page_set.specs.declared.page.Page.TheVariants.{Zero}
use Rattle.page_set.specs.Pages.{lsn_of}
use Rattle.page_set.specs.Spelled.{meaning_of, spelling_of}
use Rattle.buffer_pool.specs.Frames.{has_page}
use Rattle.pool_laws.proofs.Folds.{folds_have_fewer, folds_reach_back, folds_stay, new_folded}
use Rattle.store_pages.specs.Pages.{HasFolds}
use Rattle.store_pages.specs.Filed.{AreFiledUpTo}

and_right : (a b : Bool) → (a && b) ≡ true → b ≡ true
and_right true b h = h
and_right false b h = absurd (true≢false (sym h))

and_left : (a b : Bool) → (a && b) ≡ true → a ≡ true
and_left true b h = refl
and_left false b h = absurd (true≢false (sym h))

pub page_place : (sh : Shape) (d : ℕ) → has_page sh d ≡ true → is_place sh d ≡ true
page_place sh d has = and_right (not (eqb d 0)) (is_place sh d) has

within : (sh : Shape) (d : ℕ) → is_place sh d ≡ true → d < sh.blocks
within sh d place = ltb-true d sh.blocks (and_left (nat_lt d sh.blocks) (nat_lt d DOUBLE_WRITE_BLOCK || nat_lt 36 d) place)

-- ---- a new file

module _ (n : ℕ) (bytes : List ℕ) (zero : take n bytes ≡ replicate n 0) where
  zeros_long : n ≤ length bytes
  zeros_long = omega (arith, sym (ap length zero), length-take n bytes, length-replicate {A = ℕ} n 0)

  zeros_before : (k : ℕ) → k ≤ n → take k bytes ≡ replicate k 0
  zeros_before k le = sym (take-take k n bytes le) ∙ ap (take k) zero ∙ take-replicate k n 0 le

  zeros_at : (at k : ℕ) → at + k ≤ n → take k (drop at bytes) ≡ replicate k 0
  zeros_at at k le =
      let same : at + k - at ≡ k = omega arith in
      sym (drop-take at k bytes) ∙ ap (drop at) (zeros_before (at + k) le) ∙ drop-replicate at (at + k) 0 ∙ ap (λ (m : ℕ). replicate m 0) same

module _ (sh : Shape) (bytes : List ℕ) (shape : is_shape sh ≡ true) (zero : take (sh.blocks * BLOCK_SIZE) bytes ≡ replicate (sh.blocks * BLOCK_SIZE) 0) where
  zero_block : (d : ℕ) → d < sh.blocks → block d bytes ≡ replicate BLOCK_SIZE 0
  zero_block d lt = zeros_at (sh.blocks * BLOCK_SIZE) bytes zero (BLOCK_SIZE * d) BLOCK_SIZE (omega (arith, lt))

  closed : gate bytes ≡ 0
  closed = ap (λ (l : List ℕ). slice_index l 0) (zero_block DOUBLE_WRITE_BLOCK (omega (arith, (limits sh shape).0)))

  unopened : (gate bytes == 1) ≡ false
  unopened = ap (λ (g : ℕ). g == 1) closed

  area : is_sound_area sh bytes ≡ true
  area = both (nat_le AREA_END (length bytes)) (gate bytes == 1) (is_batch sh (head_blocks (block DOUBLE_WRITE_BLOCK bytes)))
      (le-leb AREA_END (length bytes) (omega (arith, zeros_long (sh.blocks * BLOCK_SIZE) bytes zero, (limits sh shape).0))) unopened
    where
      both : (a g b : Bool) → a ≡ true → g ≡ false → (a && (not g || b)) ≡ true
      both true false b h k = refl
      both true true b h k = absurd (true≢false k)
      both false g b h k = absurd (true≢false (sym h))

  zero_page : (d : ℕ) → has_page sh d ≡ true → filed bytes d ≡ spelling_of (Zero d)
  zero_page d has = closed_page (gate bytes == 1) unopened (page_in (copies_of bytes) d (block d bytes)) (block d bytes) ∙ zero_block d (within sh d (page_place sh d has))
    where
      closed_page : (g : Bool) → g ≡ false → (x y : List ℕ) → (if g then x else y) ≡ y
      closed_page g h x y = rw h refl

  pub new_files_have_folds_of : (log : List Record) → HasFolds sh log 0 bytes
  new_files_have_folds_of log = record {
    pages = filed bytes;
    has = record {
      within = shape;
      long = omega (arith, zeros_long (sh.blocks * BLOCK_SIZE) bytes zero);
      area = area;
      each = λ d place. refl;
    };
    folded = new_folded sh log (filed bytes) zero_page;
  }

pub new_files_have_folds : (sh : Shape) (log : List Record) (bytes : List ℕ) → is_shape sh ≡ true → take (sh.blocks * BLOCK_SIZE) bytes ≡ replicate (sh.blocks * BLOCK_SIZE) 0 → HasFolds sh log 0 bytes
new_files_have_folds sh log bytes shape zero = new_files_have_folds_of sh bytes shape zero log

-- ---- a log with more records, or fewer

pub folds_of_files_stay : (sh : Shape) (Q R : List Record) (m : ℕ) (bytes : List ℕ) → Extends Q R → m ≤ length Q → HasFolds sh Q m bytes → HasFolds sh R m bytes
folds_of_files_stay sh Q R m bytes e le f = record { pages = f.pages; has = f.has; folded = folds_stay sh Q R m f.pages e le f.folded }

pub folds_of_files_have_fewer : (sh : Shape) (R : List Record) (m n : ℕ) (bytes : List ℕ) → m ≤ n → n ≤ length R → AreFiledUpTo sh n bytes → HasFolds sh R m bytes → HasFolds sh (prefix R n) m bytes
folds_of_files_have_fewer sh R m n bytes le few upto f = record {
  pages = f.pages;
  has = f.has;
  folded = folds_have_fewer sh R m n f.pages le few (λ d has. subst (λ (l : List ℕ). lsn_of (meaning_of d l) ≤ n) (f.has.each d (page_place sh d has)) (upto d has)) f.folded;
}

pub folds_of_files_reach_back : (sh : Shape) (R : List Record) (k m : ℕ) (bytes : List ℕ) → k ≤ m → HasFolds sh R m bytes → HasFolds sh R k bytes
folds_of_files_reach_back sh R k m bytes le f = record { pages = f.pages; has = f.has; folded = folds_reach_back sh R k m f.pages le f.folded }
