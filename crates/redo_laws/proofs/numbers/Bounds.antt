-- How large the numbers of an allowed record are.
use Rattle.std.proofs.Common.{◌≡◌, ℕ, zero, suc, ◌+◌, ◌-◌, ◌*◌, ◌<◌, ◌≤◌, max, Bool, true, false, cond, not, eqb, leb, List, [], ◌∷◌, ◌++◌, length, Option, Some, None, find, refl, ◌∙◌, ap, arith, inl, inr, length-append, le_trans, mul-le-mul, zero-add, eq-eqb, leb-true}
use Rattle.seg_words.proofs.Lemmas.{cond_both, and_parts, or_left, or_right, prefix_len-le-length, sum_by-append}
use Rattle.seg_words.specs.Types.{Class as BlockClass, Unformatted, Full, Fs1, Fs2, Fs3, Fs4, Shape, Writer, class_code, first_block, is_extent, head_blocks, is_shape, BLOCK_ROOM, MOST_UNDO_PARTS, MOST_EXTENTS, OWN_BLOCKS, LEAST_BLOCKS, MOST_BLOCKS, LEAST_EXTENT_BLOCKS, MOST_EXTENT_BLOCKS, LEAST_UNDO_BLOCKS, MOST_UNDO_BLOCKS, UNDO_PART_SIZE}
use Rattle.redo_model.specs.Records.{Record, Reuse, RowPart}
use Rattle.redo_model.specs.Model.{Effect, effect_of, count_of, is_commit, is_insert, is_begin, is_lower, Extent, extents_of, blocks_from, data_of, data_blocks, is_formatted, has_extent, extent_at, block_in, index_of, group_start, kept_class, code_of, good_code, best_of, best_in_group, best_in_l2, best_of_found, best_in_l1, Undone, undone_after, emptied_by, parts_size, undone, undo_parts, undo_used, current_undo, undo_sequence, has_holder, ring_after, next_undo, AreAllowed}
use Rattle.redo_model.specs.Effects.{Adds}
use Rattle.redo_laws.specs.Among.{is_in}
use Rattle.redo_laws.specs.Short.{NumbersAreShort}
use Rattle.redo_laws.proofs.lists.Every.{Every}
use Rattle.redo_laws.proofs.allowed.AllKinds.{found_in}
use Rattle.redo_laws.proofs.undo.Economy.{size_of}
use Rattle.redo_laws.proofs.space.Places.{in_either, in_range, in_data}
use Rattle.redo_laws.proofs.space.ApartLaw.{placed}

-- counts

pub count_short : (p : Record → Bool) (R : List Record) → count_of p R ≤ length R
count_short p [] = omega arith
count_short p (r ∷ R) = let k = count_short p R in cond_both (p r) (suc (count_of p R)) (count_of p R) (λ n. n ≤ suc (length R)) (λ y. omega (arith, k)) (λ f. omega (arith, k))

pub sequence_short : (R : List Record) (u : ℕ) → undo_sequence R u ≤ length R
sequence_short [] u = omega arith
sequence_short (Reuse q ∷ R) u = let k = sequence_short R u in cond_both (eqb q.block u) (suc (undo_sequence R u)) (undo_sequence R u) (λ n. n ≤ suc (length R)) (λ y. omega (arith, k)) (λ f. omega (arith, k))
sequence_short (_ ∷ R) u = let k = sequence_short R u in omega (arith, k)

pub numbers_are_short : NumbersAreShort
numbers_are_short R = record {
  commits = count_short is_commit R;
  rows = count_short is_insert R;
  txns = count_short is_begin R;
  lowerings = count_short is_lower R;
  sequences = λ u. sequence_short R u;
}

-- the limits of a store
pub record Limits (sh : Shape) : Type 0 where
  pub most : sh.blocks ≤ MOST_BLOCKS
  pub extent_from : LEAST_EXTENT_BLOCKS ≤ sh.extent
  pub extent_to : sh.extent ≤ MOST_EXTENT_BLOCKS
  pub undo_from : LEAST_UNDO_BLOCKS ≤ sh.undo
  pub all : OWN_BLOCKS + sh.undo + sh.extent ≤ sh.blocks

pub limits : (sh : Shape) → is_shape sh ≡ true → Limits sh
limits sh h =
    let a = and_parts _ (leb (OWN_BLOCKS + sh.undo + sh.extent) sh.blocks) h in
    let b = and_parts _ (leb sh.undo MOST_UNDO_BLOCKS) a.0 in
    let c = and_parts _ (leb LEAST_UNDO_BLOCKS sh.undo) b.0 in
    let d = and_parts _ (leb sh.extent MOST_EXTENT_BLOCKS) c.0 in
    let e = and_parts _ (leb LEAST_EXTENT_BLOCKS sh.extent) d.0 in
    let f = and_parts (leb LEAST_BLOCKS sh.blocks) (leb sh.blocks MOST_BLOCKS) e.0 in
    record {
      most = leb-true sh.blocks MOST_BLOCKS f.1;
      extent_from = leb-true LEAST_EXTENT_BLOCKS sh.extent e.1;
      extent_to = leb-true sh.extent MOST_EXTENT_BLOCKS d.1;
      undo_from = leb-true LEAST_UNDO_BLOCKS sh.undo c.1;
      all = leb-true (OWN_BLOCKS + sh.undo + sh.extent) sh.blocks a.1;
    }

-- data blocks

pub data_bound : (sh : Shape) (R : List Record) (o b : ℕ) → AreAllowed sh R → is_in b (data_blocks sh R o) ≡ true → (OWN_BLOCKS ≤ b) × (b < sh.blocks)
data_bound sh R o b h m =
    let y = in_data sh 0 (extents_of R o) b m in
    let l = leb-true (first_block sh y.extent + sh.extent) sh.blocks ((placed sh R o h).whole y.extent y.has) in
    let f = y.from in
    let u = y.to in
    (omega (arith, f), omega (arith, l, u))

-- bitmap blocks and headers

found_has : (es : List Extent) (i : ℕ) (e : Extent) → extent_at es i ≡ Some e → has_extent es e.number ≡ true
found_has [] i e h = absurd (let x : ◌≡◌ {A = Option Extent} None (Some e) = h in cc)
found_has (f ∷ es) zero e h = let same : f ≡ e = cc in or_left _ _ (eq-eqb f.number e.number (ap (λ (x : Extent). x.number) same))
found_has (f ∷ es) (suc i) e h = or_right (eqb f.number e.number) _ (found_has es i e h)

pub block_in_bound : (sh : Shape) (es : List Extent) (i n : ℕ) → ((x : ℕ) → has_extent es x ≡ true → is_extent sh x ≡ true) → n < sh.extent → block_in sh (extent_at es i) n ≤ sh.blocks
block_in_bound sh es i n w l = go (extent_at es i) refl
  where
    go : (o : Option Extent) → extent_at es i ≡ o → block_in sh o n ≤ sh.blocks
    go None e = omega arith
    go (Some x) e = let k = leb-true (first_block sh x.number + sh.extent) sh.blocks (w x.number (found_has es i x e)) in omega (arith, k, l)

pub index_bound : (sh : Shape) (es : List Extent) (b : ℕ) → index_of sh es b ≤ length es
index_bound sh es b = prefix_len-le-length _ es

-- bests

class_bound : (c : BlockClass) → class_code c ≤ 5
class_bound Unformatted = omega arith
class_bound Full = omega arith
class_bound Fs1 = omega arith
class_bound Fs2 = omega arith
class_bound Fs3 = omega arith
class_bound Fs4 = omega arith

code_bound : (sh : Shape) (R : List Record) (b : ℕ) → good_code (code_of sh R b) ≤ 5
code_bound sh R b = cond_both _ 0 (code_of sh R b) (λ n. n ≤ 5) (λ y. omega arith) (λ f. cond_both (is_formatted sh R b) (class_code (kept_class R b)) 0 (λ n. n ≤ 5) (λ y. class_bound (kept_class R b)) (λ g. omega arith))

max_bound : (a b : ℕ) → a ≤ 5 → b ≤ 5 → max a b ≤ 5
max_bound a b p q = omega (arith, p, q)

best_bound : (sh : Shape) (R : List Record) (bs : List ℕ) → best_of sh R bs ≤ 5
best_bound sh R [] = omega arith
best_bound sh R (b ∷ bs) = max_bound (good_code (code_of sh R b)) (best_of sh R bs) (code_bound sh R b) (best_bound sh R bs)

group_bound : (sh : Shape) (R : List Record) (start index : ℕ) (es : List Extent) → best_in_group sh R start index es ≤ 5
group_bound sh R start index [] = omega arith
group_bound sh R start index (e ∷ es) = max_bound _ (best_in_group sh R start (suc index) es) (cond_both (eqb (group_start index) start) _ 0 (λ n. n ≤ 5) (λ y. best_bound sh R _) (λ f. omega arith)) (group_bound sh R start (suc index) es)

pub l2_best_bound : (sh : Shape) (R : List Record) (o start : ℕ) → best_in_l2 sh R o start ≤ 5
l2_best_bound sh R o start = group_bound sh R start 0 (extents_of R o)

pub l1_best_bound : (sh : Shape) (R : List Record) (o index : ℕ) → best_in_l1 sh R o index ≤ 5
l1_best_bound sh R o index = go (extent_at (extents_of R o) index)
  where
    go : (x : Option Extent) → best_of_found sh R index x ≤ 5
    go None = omega arith
    go (Some e) = best_bound sh R _

-- how many data blocks there are

blocks_length : (b n : ℕ) → length (blocks_from b n) ≡ n
blocks_length b zero = refl
blocks_length b (suc n) = ap (λ k. suc k) (blocks_length (suc b) n)

data_length : (sh : Shape) (i : ℕ) (es : List Extent) → length (data_of sh i es) ≤ length es * sh.extent
data_length sh i [] = omega arith
data_length sh i (e ∷ es) =
    let l = length-append (blocks_from (first_block sh e.number + head_blocks i) (sh.extent - head_blocks i)) (data_of sh (suc i) es) in
    let k = blocks_length (first_block sh e.number + head_blocks i) (sh.extent - head_blocks i) in
    let m = data_length sh (suc i) es in
    omega (arith, l, k, m)

pub data_few : (sh : Shape) (i : ℕ) (es : List Extent) → length es ≤ MOST_EXTENTS → sh.extent ≤ MOST_EXTENT_BLOCKS → length (data_of sh i es) ≤ MOST_EXTENTS * MOST_EXTENT_BLOCKS
data_few sh i es l u = le_trans (data_length sh i es) (mul-le-mul l u)

-- parts of undo: each has at least 64 bytes, so that a block has at most 63

abbrev IsBig : Undone → Type 0
IsBig p = UNDO_PART_SIZE ≤ p.size

big_undone : (w : Writer) (ps : List RowPart) → Every IsBig (undone w ps)
big_undone w [] = tt
big_undone w (p ∷ ps) = (omega arith, big_undone w ps)

big_both : (us vs : List Undone) → Every IsBig us → Every IsBig vs → Every IsBig (us ++ vs)
big_both [] vs h k = k
big_both (u ∷ us) vs h k = (h.0, big_both us vs h.1 k)

big_emptied : (r : Record) (u : ℕ) (us : List Undone) → Every IsBig us → Every IsBig (emptied_by r u us)
big_emptied (Reuse q) u us h = elim (eqb q.block u) as (λ v. Every IsBig (cond v [] us)) [ true ↦ tt | false ↦ h ]
big_emptied _ u us h = h

big_after : (e : Effect) (u : ℕ) (us : List Undone) → Every IsBig us → Every IsBig (undone_after e u us)
big_after (Adds st) u us h = elim (eqb st.undo.block u) as (λ v. Every IsBig (cond v (us ++ undone st.by st.parts) us)) [ true ↦ big_both us (undone st.by st.parts) h (big_undone st.by st.parts) | false ↦ h ]
big_after _ u us h = h

big_parts : (R : List Record) (u : ℕ) → Every IsBig (undo_parts R u)
big_parts [] u = tt
big_parts (r ∷ R) u = big_after (effect_of r) u (emptied_by r u (undo_parts R u)) (big_emptied r u (undo_parts R u) (big_parts R u))

size_more : (p : Undone) (us : List Undone) → size_of (p ∷ us) ≡ p.size + size_of us
size_more p us = sum_by-append (λ (q : Undone). q.size) (p ∷ []) us ∙ ap (λ n. n + size_of us) (zero-add p.size)

big_size : (us : List Undone) → Every IsBig us → UNDO_PART_SIZE * length us ≤ size_of us
big_size [] h = omega arith
big_size (p ∷ us) h = let l = h.0 in let e = size_more p us in let k = big_size us h.1 in omega (arith, l, e, k)

parts_big : (ps : List RowPart) → UNDO_PART_SIZE * length ps ≤ parts_size ps
parts_big [] = omega arith
parts_big (p ∷ ps) = let k = parts_big ps in omega (arith, k)

-- the parts of a record that fit have places below 63
pub places_bound : (R : List Record) (u : ℕ) (ps : List RowPart) → undo_used R u + parts_size ps ≤ BLOCK_ROOM → length (undo_parts R u) + length ps ≤ MOST_UNDO_PARTS
places_bound R u ps l = let a = big_size (undo_parts R u) (big_parts R u) in let b = parts_big ps in omega (arith, a, b, l)

-- undo blocks

next_bound : (sh : Shape) (R : List Record) (u : ℕ) (o : Option ℕ) → ((v : ℕ) → o ≡ Some v → (OWN_BLOCKS ≤ v) × (v < OWN_BLOCKS + sh.undo)) → LEAST_UNDO_BLOCKS ≤ sh.undo
    → ◌≡◌ {A = Option ℕ} (elim o [ None ↦ Some OWN_BLOCKS | Some v ↦ find (λ b. not (has_holder R b)) (ring_after sh v) ]) (Some u) → (OWN_BLOCKS ≤ u) × (u < OWN_BLOCKS + sh.undo)
next_bound sh R u None w l e = let same : OWN_BLOCKS ≡ u = (let x : ◌≡◌ {A = Option ℕ} (Some OWN_BLOCKS) (Some u) = e in cc) in (omega (arith, same), omega (arith, same, l))
next_bound sh R u (Some v) w l e =
    let f = found_in (λ b. not (has_holder R b)) (ring_after sh v) u e in
    let k = w v refl in
    let from = k.0 in
    let to = k.1 in
    elim (in_either u (blocks_from (suc v) (OWN_BLOCKS - 1 + sh.undo - v)) (blocks_from OWN_BLOCKS (v - OWN_BLOCKS)) f.0) [
      | inl y ↦ let r = in_range u (suc v) (OWN_BLOCKS - 1 + sh.undo - v) y in let a = r.0 in let b = r.1 in (omega (arith, from, a), omega (arith, to, a, b))
      | inr y ↦ let r = in_range u OWN_BLOCKS (v - OWN_BLOCKS) y in let a = r.0 in let b = r.1 in (a, omega (arith, from, to, a, b))
    ]

pub current_bound : (sh : Shape) (R : List Record) (u : ℕ) → LEAST_UNDO_BLOCKS ≤ sh.undo → AreAllowed sh R → current_undo R ≡ Some u → (OWN_BLOCKS ≤ u) × (u < OWN_BLOCKS + sh.undo)
current_bound sh [] u l h e = absurd (let x : ◌≡◌ {A = Option ℕ} None (Some u) = e in cc)
current_bound sh (Reuse q ∷ R) u l h e =
    let same : q.block ≡ u = (let x : ◌≡◌ {A = Option ℕ} (Some q.block) (Some u) = e in cc) in
    next_bound sh R u (current_undo R) (λ v k. current_bound sh R v l h.0 k) l (h.1.kind.block.next ∙ ap (λ (x : ℕ). Some x) same)
current_bound sh (_ ∷ R) u l h e = current_bound sh R u l h.0 e

-- the block that is taken into use next
pub reuse_bound : (sh : Shape) (R : List Record) (u : ℕ) → LEAST_UNDO_BLOCKS ≤ sh.undo → AreAllowed sh R → next_undo sh R ≡ Some u → (OWN_BLOCKS ≤ u) × (u < OWN_BLOCKS + sh.undo)
reuse_bound sh R u l h e = next_bound sh R u (current_undo R) (λ v k. current_bound sh R v l h k) l e
