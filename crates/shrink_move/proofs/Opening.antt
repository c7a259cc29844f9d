-- The slots of a block that hold something and weren't skipped, by its page and by the list.
use Rattle.std.proofs.Common.{◌≡◌, ◌⊎◌, ℕ, zero, suc, ◌<◌, ◌≤◌, Bool, true, false, not, ◌&&◌, ◌||◌, eqb, leb, List, [], ◌∷◌, ◌++◌, length, reverse, get_or, Option, Some, None, refl, sym, ◌∙◌, ap, subst, arith, inl, inr, true≢false, leb-true, leb-false, le-leb, eq-eqb, eqb-true}
use Rattle.seg_words.proofs.Lemmas.{cond-true, cond-false, cases_Bool, and_parts, not-true, reverse-append}
use Rattle.seg_words.specs.Types.{Shape, Slot, Kind, Head, Empty, Row, Body, Rowid, Block, LONGEST_ROW, is_empty, is_shape, new_slot}
use Rattle.redo_model.specs.Records.{Record}
use Rattle.redo_model.specs.Model.{at_place, image, block_of, is_place, IsRowBlock, IsLawful, AreAllowed, data_blocks}
use Rattle.redo_model.proofs.Bridge.{image_is}
use Rattle.redo_laws.specs.Homes.{row_table}
use Rattle.redo_laws.proofs.homes.HomesLaw.{slots_are_at_home}
use Rattle.redo_laws.proofs.homes.PairsLaw.{heads_name_bodies}
use Rattle.redo_laws.proofs.numbers.Bounds.{data_bound}
use Rattle.redo_laws.proofs.room.RoomLaw.{blocks_have_room}
use Rattle.redo_laws.proofs.space.Places.{in_contains, in_take}
use Rattle.page_set.specs.Folded.{page_of}
use Rattle.store_laws.specs.Kinds.{HasRowPage}
use Rattle.store_laws.proofs.KindsLaw.{rows_stand}
use Rattle.store_core.specs.Store.{has_page}
use Rattle.store_read.proofs.Truth.{page_when}
use Rattle.shrink_laws.specs.declared.skip.Skip.{Skip}
use Rattle.shrink_laws.specs.Stops.{IsFull, holder, is_skipped, linked, row_image}
use Rattle.shrink_move.specs.declared.outline.Outline.{Outline}
use Rattle.shrink_move.specs.Asked.{is_open, open_below, open_in, outline_of, outline_if, outline_in, body_of}

-- ---- skips in any order

or_last : (a b : Bool) → (a || (b || false)) ≡ (b || a)
or_last true true = refl
or_last true false = refl
or_last false true = refl
or_last false false = refl

or_move : (a b c : Bool) → ((a || b) || c) ≡ (a || (b || c))
or_move true b c = refl
or_move false b c = refl

or_none : (a : Bool) → (false || a) ≡ a
or_none a = refl

skipped_both : (xs ys : List Skip) (b k : ℕ) → is_skipped (xs ++ ys) b k ≡ (is_skipped xs b k || is_skipped ys b k)
skipped_both [] ys b k = refl
skipped_both (x ∷ xs) ys b k = ap (λ v. is_place x.block x.slot b k || v) (skipped_both xs ys b k) ∙ sym (or_move (is_place x.block x.slot b k) (is_skipped xs b k) (is_skipped ys b k))

pub skipped_turned : (xs : List Skip) (b k : ℕ) → is_skipped (reverse xs) b k ≡ is_skipped xs b k
skipped_turned [] b k = refl
skipped_turned (x ∷ xs) b k =
    ap (λ (l : List Skip). is_skipped l b k) (reverse-append (x ∷ []) xs)
    ∙ skipped_both (reverse xs) (x ∷ []) b k
    ∙ or_last (is_skipped (reverse xs) b k) (is_place x.block x.slot b k)
    ∙ ap (λ v. is_place x.block x.slot b k || v) (skipped_turned xs b k)

-- ---- by numbers

-- what the greatest open slot tells

not_open : (e s : Bool) → (not e && not s) ≡ false → e ≡ false → s ≡ true
not_open true s h f = absurd (true≢false f)
not_open false true h f = refl
not_open false false h f = absurd (true≢false h)

pub record IsGreatest (skips : List Skip) (b : ℕ) (ss : List Slot) (n k : ℕ) : Type 0 where
  pub there : k < n
  pub full : is_empty (get_or ss k new_slot).kind ≡ false
  pub fresh : is_skipped skips b k ≡ false
  pub greater : (j : ℕ) → k < j → j < n → is_empty (get_or ss j new_slot).kind ≡ false → is_skipped skips b j ≡ true

some_inside : (a b : ℕ) → ◌≡◌ {A = Option ℕ} (Some a) (Some b) → a ≡ b
some_inside a b e = cc

none_some : {P : Type 0} (a : ℕ) → ◌≡◌ {A = Option ℕ} None (Some a) → P
none_some a e = absurd cc

under : (j n : ℕ) → j < suc n → (j ≡ n → ⊥) → j < n
under j n m z = omega (arith, m, z)

pub greatest : (skips : List Skip) (b : ℕ) (ss : List Slot) (n k : ℕ) → open_below skips b ss n ≡ Some k → IsGreatest skips b ss n k
greatest skips b ss zero k e = none_some k e
greatest skips b ss (suc n) k e = elim (cases_Bool (is_open skips b ss n)) [
  | inl y ↦
      let same : n ≡ k = some_inside n k (sym (cond-true _ _ _ y) ∙ e) in
      let p = and_parts (not (is_empty (get_or ss n new_slot).kind)) (not (is_skipped skips b n)) y in
      record {
        there = omega (arith, same);
        full = subst (λ i. is_empty (get_or ss i new_slot).kind ≡ false) same (not-true _ p.0);
        fresh = subst (λ i. is_skipped skips b i ≡ false) same (not-true _ p.1);
        greater = λ j l m f. absurd (omega (arith, same, l, m));
      }
  | inr f ↦
      let g = greatest skips b ss n k (sym (cond-false _ _ _ f) ∙ e) in
      record {
        there = (let l = g.there in omega (arith, l));
        full = g.full;
        fresh = g.fresh;
        greater = λ j l m h. later g.greater f j l m h (cases_Bool (eqb j n));
      }
]
  where
    later : ((j : ℕ) → k < j → j < n → is_empty (get_or ss j new_slot).kind ≡ false → is_skipped skips b j ≡ true) → is_open skips b ss n ≡ false
        → (j : ℕ) → k < j → j < suc n → is_empty (get_or ss j new_slot).kind ≡ false → (eqb j n ≡ true) ⊎ (eqb j n ≡ false) → is_skipped skips b j ≡ true
    later g f j l m h (inl y) =
        let same : j ≡ n = eqb-true j n y in
        subst (λ i. is_skipped skips b i ≡ true) (sym same) (not_open (is_empty (get_or ss n new_slot).kind) (is_skipped skips b n) f (subst (λ i. is_empty (get_or ss i new_slot).kind ≡ false) same h))
    later g f j l m h (inr z) = g j l (under j n m (λ e. true≢false (sym (eq-eqb j n e) ∙ z))) h

pub none_open : (skips : List Skip) (b : ℕ) (ss : List Slot) (n : ℕ) → open_below skips b ss n ≡ None → (k : ℕ) → k < n → is_empty (get_or ss k new_slot).kind ≡ false → is_skipped skips b k ≡ true
none_open skips b ss zero e k l h = absurd (omega (arith, l))
none_open skips b ss (suc n) e k l h = elim (cases_Bool (is_open skips b ss n)) [
  | inl y ↦ none_some n (sym e ∙ cond-true _ _ _ y)
  | inr f ↦ at (λ m. none_open skips b ss n (sym (cond-false _ _ _ f) ∙ e) k m h) f (cases_Bool (eqb k n))
]
  where
    at : (k < n → is_skipped skips b k ≡ true) → is_open skips b ss n ≡ false → (eqb k n ≡ true) ⊎ (eqb k n ≡ false) → is_skipped skips b k ≡ true
    at m f (inl y) =
        let same : k ≡ n = eqb-true k n y in
        subst (λ i. is_skipped skips b i ≡ true) (sym same) (not_open (is_empty (get_or ss n new_slot).kind) (is_skipped skips b n) f (subst (λ i. is_empty (get_or ss i new_slot).kind ≡ false) same h))
    at m f (inr z) = m (under k n l (λ e. true≢false (sym (eq-eqb k n e) ∙ z)))

-- ---- by the list

-- past the last slot there is nothing
past_empty : (ss : List Slot) (k : ℕ) → length ss ≤ k → is_empty (get_or ss k new_slot).kind ≡ true
past_empty [] k l = refl
past_empty (s ∷ ss) zero l = absurd (omega (arith, l))
past_empty (s ∷ ss) (suc k) l = past_empty ss k (omega (arith, l))

full_below : (ss : List Slot) (k : ℕ) → is_empty (get_or ss k new_slot).kind ≡ false → k < length ss
full_below ss k h = elim (cases_Bool (leb (length ss) k)) [
  | inl y ↦ absurd (true≢false (sym (past_empty ss k (leb-true _ _ y)) ∙ h))
  | inr f ↦ leb-false _ _ f
]

slot_image : (R : List Record) (b : ℕ) (x : Block) (k : ℕ) → x ≡ block_of R b → get_or x.slots k new_slot ≡ image R b k
slot_image R b x k e = ap (λ (y : Block). get_or y.slots k new_slot) e ∙ image_is R b k

slot_full : (R : List Record) (b : ℕ) (x : Block) (k : ℕ) → x ≡ block_of R b → IsFull R b k → is_empty (get_or x.slots k new_slot).kind ≡ false
slot_full R b x k e f = ap (λ (i : Slot). is_empty i.kind) (slot_image R b x k e) ∙ f

-- the page of a row block

pub row_home : (sh : Shape) (R : List Record) (b k : ℕ) → AreAllowed sh R → IsFull R b k → IsRowBlock sh R (row_table R (image R b k).row) b
row_home sh R b k h f = (slots_are_at_home sh R b k h).at_home f

pub row_has : (sh : Shape) (R : List Record) (o b : ℕ) → AreAllowed sh R → IsRowBlock sh R o b → has_page sh b ≡ true
row_has sh R o b h x =
    let bound = data_bound sh R o b h (in_take b _ (data_blocks sh R o) (in_contains _ b x.here.0 x.here.1 x.here.2)) in
    page_when sh b bound.0 bound.1

pub full_has : (sh : Shape) (R : List Record) (b k : ℕ) → AreAllowed sh R → IsFull R b k → has_page sh b ≡ true
full_has sh R b k h f = row_has sh R (row_table R (image R b k).row) b h (row_home sh R b k h f)

full_page : (sh : Shape) (R : List Record) (b k : ℕ) → is_shape sh ≡ true → IsLawful sh R → IsFull R b k → HasRowPage sh R b
full_page sh R b k s h f = rows_stand sh R (row_table R (image R b k).row) b s h (row_home sh R b k h.allowed f)

-- ---- what the page of a row block answers

pub open_read : (sh : Shape) (R : List Record) (o b : ℕ) (skips : List Skip) (s : is_shape sh ≡ true) (h : IsLawful sh R) (x : IsRowBlock sh R o b) → open_in skips b (page_of sh R b) ≡ Some (open_below skips b (rows_stand sh R o b s h x).rows.block.slots (length (rows_stand sh R o b s h x).rows.block.slots))
open_read sh R o b skips s h x = ap (open_in skips b) (rows_stand sh R o b s h x).page

answer_inside : (a b : Option ℕ) → ◌≡◌ {A = Option (Option ℕ)} (Some a) (Some b) → a ≡ b
answer_inside a b e = cc

pub record GreatestOf (R : List Record) (skips : List Skip) (b k : ℕ) : Type 0 where
  pub full : IsFull R b k
  pub fresh : is_skipped skips b k ≡ false
  pub greater : (j : ℕ) → k < j → IsFull R b j → is_skipped skips b j ≡ true

pub greatest_of : (sh : Shape) (R : List Record) (o b k : ℕ) (skips : List Skip) (r : Option ℕ) → is_shape sh ≡ true → IsLawful sh R → IsRowBlock sh R o b → open_in skips b (page_of sh R b) ≡ Some r → r ≡ Some k → GreatestOf R skips b k
greatest_of sh R o b k skips r s h x e is =
    let p = rows_stand sh R o b s h x in
    let same = p.holds.block in
    let told : open_below skips b p.rows.block.slots (length p.rows.block.slots) ≡ Some k = answer_inside _ _ (sym (open_read sh R o b skips s h x) ∙ e ∙ ap (λ (a : Option ℕ). Some a) is) in
    let g = greatest skips b p.rows.block.slots (length p.rows.block.slots) k told in
    record {
      full = ap (λ (i : Slot). is_empty i.kind) (sym (slot_image R b p.rows.block k same)) ∙ g.full;
      fresh = g.fresh;
      greater = λ j l f. (let full = slot_full R b p.rows.block j same f in g.greater j l (full_below p.rows.block.slots j full) full);
    }

pub none_of : (sh : Shape) (R : List Record) (o b : ℕ) (skips : List Skip) (r : Option ℕ) → is_shape sh ≡ true → IsLawful sh R → IsRowBlock sh R o b → open_in skips b (page_of sh R b) ≡ Some r → r ≡ None → (k : ℕ) → IsFull R b k → is_skipped skips b k ≡ true
none_of sh R o b skips r s h x e is k f =
    let p = rows_stand sh R o b s h x in
    let told : open_below skips b p.rows.block.slots (length p.rows.block.slots) ≡ None = answer_inside _ _ (sym (open_read sh R o b skips s h x) ∙ e ∙ ap (λ (a : Option ℕ). Some a) is) in
    let full = slot_full R b p.rows.block k p.holds.block f in
    none_open skips b p.rows.block.slots (length p.rows.block.slots) told k (full_below p.rows.block.slots k full) full

-- ---- outlines

pub outline_read : (sh : Shape) (R : List Record) (b k : ℕ) → is_shape sh ≡ true → IsLawful sh R → IsFull R b k → outline_in k (page_of sh R b) ≡ Some (outline_of (image R b k))
outline_read sh R b k s h f =
    let p = full_page sh R b k s h f in
    ap (outline_in k) p.page
    ∙ ap outline_if (slot_image R b p.rows.block k p.holds.block)
    ∙ cond-true _ _ _ (le-leb _ LONGEST_ROW ((blocks_have_room sh R b h.allowed).rows k))

outline_inside : (a b : Outline) → ◌≡◌ {A = Option Outline} (Some a) (Some b) → a ≡ b
outline_inside a b e = cc

pub outline_told : (sh : Shape) (R : List Record) (b k : ℕ) (x : Outline) → is_shape sh ≡ true → IsLawful sh R → IsFull R b k → outline_in k (page_of sh R b) ≡ Some x → x ≡ outline_of (image R b k)
outline_told sh R b k x s h f e = outline_inside x (outline_of (image R b k)) (sym e ∙ outline_read sh R b k s h f)

-- ---- the image that holds the row

no_rowid : {P : Type 0} (p : Rowid) → ◌≡◌ {A = Option Rowid} None (Some p) → P
no_rowid p e = absurd cc

rowid_inside : (p q : Rowid) → ◌≡◌ {A = Option Rowid} (Some p) (Some q) → p ≡ q
rowid_inside p q e = cc

own_held : (R : List Record) (kind : Kind) (i : Slot) → body_of kind i.link ≡ None → holder R kind i ≡ i
own_held R Empty i e = refl
own_held R Row i e = refl
own_held R Head i e = ap (λ (l : Option Rowid). linked R l i) e
own_held R Body i e = refl

-- where there is no body, it is the slot's own
pub own_row : (R : List Record) (b k : ℕ) → body_of (image R b k).kind (image R b k).link ≡ None → row_image R b k ≡ image R b k
own_row R b k e = own_held R (image R b k).kind (image R b k) e

head_of : (kind : Kind) (link : Option Rowid) (p : Rowid) → body_of kind link ≡ Some p → (kind ≡ Head) × (link ≡ Some p)
head_of Empty link p e = no_rowid p e
head_of Row link p e = no_rowid p e
head_of Head link p e = (refl, e)
head_of Body link p e = no_rowid p e

pub record HasBody (R : List Record) (b k : ℕ) (p : Rowid) : Type 0 where
  pub head : (image R b k).kind ≡ Head
  pub link : (image R b k).link ≡ Some p
  pub row : row_image R b k ≡ image R p.dba p.slot

pub has_body : (R : List Record) (b k : ℕ) (p : Rowid) → body_of (image R b k).kind (image R b k).link ≡ Some p → HasBody R b k p
has_body R b k p e =
    let h = head_of (image R b k).kind (image R b k).link p e in
    record { head = h.0; link = h.1; row = ap (λ (x : Kind). holder R x (image R b k)) h.0 ∙ ap (λ (l : Option Rowid). linked R l (image R b k)) h.1 }

-- a head has a body
pub body_is : (R : List Record) (b k : ℕ) (p : Rowid) → (image R b k).kind ≡ Head → (image R b k).link ≡ Some p → body_of (image R b k).kind (image R b k).link ≡ Some p
body_is R b k p h l = ap (λ (x : Kind). body_of x (image R b k).link) h ∙ l

-- which holds the row
pub body_full : (sh : Shape) (R : List Record) (b k : ℕ) (p : Rowid) → AreAllowed sh R → HasBody R b k p → IsFull R p.dba p.slot
body_full sh R b k p h w =
    let n = (heads_name_bodies sh R b k h).head w.head in
    let same : p ≡ at_place n.block n.slot = rowid_inside p (at_place n.block n.slot) (sym w.link ∙ n.link) in
    ap (λ (x : Rowid). is_empty (image R x.dba x.slot).kind) same ∙ ap is_empty n.kind
