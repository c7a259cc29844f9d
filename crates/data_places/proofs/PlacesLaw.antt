-- Where data blocks stand.
use Rattle.std.proofs.Common.{◌≡◌, ℕ, zero, suc, ◌+◌, ◌-◌, ◌<◌, ◌≤◌, List, [], ◌∷◌, ◌++◌, length, slice_get, Option, Some, None, refl, sym, ◌∙◌, ap, subst, arith, length-append}
use Rattle.seg_words.specs.Types.{Shape, first_block, head_blocks}
use Rattle.redo_model.specs.Model.{Extent, blocks_from, extent_data, data_of, extent_at}
use Rattle.data_places.specs.Places.{data_count, CountsAreTold, PlacesAreTold}

blocks_length : (b n : ℕ) → length (blocks_from b n) ≡ n
blocks_length b zero = refl
blocks_length b (suc n) = ap (λ k. suc k) (blocks_length (suc b) n)

-- the data blocks of extents from index i on, and those before them
counts : (sh : Shape) (i : ℕ) (es : List Extent) → data_count sh i + length (data_of sh i es) ≡ data_count sh (i + length es)
counts sh i [] = let e : i + 0 ≡ i = omega arith in (let z : data_count sh i + 0 ≡ data_count sh i = omega arith in z) ∙ ap (data_count sh) (sym e)
counts sh i (e ∷ es) =
    let more = counts sh (suc i) es in
    let one = blocks_length (first_block sh e.number + head_blocks i) (sh.extent - head_blocks i) in
    let all = length-append (extent_data sh i e.number) (data_of sh (suc i) es) in
    let next : suc i + length es ≡ i + suc (length es) = omega arith in
    let sum : data_count sh i + length (data_of sh i (e ∷ es)) ≡ data_count sh (suc i) + length (data_of sh (suc i) es) = omega (arith, one, all) in
    sum ∙ more ∙ ap (data_count sh) next

pub counts_are_told : CountsAreTold
counts_are_told sh es =
    let c = counts sh 0 es in
    let n : 0 + length es ≡ length es = omega arith in
    let w : data_count sh (0 + length es) ≡ data_count sh (length es) = ap (data_count sh) n in
    omega (arith, c, w)

in_range : (b n k : ℕ) → k < n → slice_get (blocks_from b n) k ≡ Some (b + k)
in_range b zero k l = absurd (omega (arith, l))
in_range b (suc n) zero l = ap (λ (x : ℕ). Some x) (let e : b ≡ b + 0 = omega arith in e)
in_range b (suc n) (suc k) l = in_range (suc b) n k (omega (arith, l)) ∙ ap (λ (x : ℕ). Some x) (let e : suc b + k ≡ b + suc k = omega arith in e)

get_left : (xs ys : List ℕ) (k : ℕ) → k < length xs → slice_get (xs ++ ys) k ≡ slice_get xs k
get_left [] ys k l = absurd (omega (arith, l))
get_left (x ∷ xs) ys zero l = refl
get_left (x ∷ xs) ys (suc k) l = get_left xs ys k (omega (arith, l))

get_right : (xs ys : List ℕ) (k : ℕ) → slice_get (xs ++ ys) (length xs + k) ≡ slice_get ys k
get_right [] ys k = ap (slice_get ys) (let e : 0 + k ≡ k = omega arith in e)
get_right (x ∷ xs) ys k = ap (slice_get (x ∷ xs ++ ys)) (let e : suc (length xs) + k ≡ suc (length xs + k) = omega arith in e) ∙ get_right xs ys k

-- the kth data block of the jth of these extents, and how many stand before it
at_place : (sh : Shape) (i : ℕ) (es : List Extent) (j k : ℕ) (e : Extent) → extent_at es j ≡ Some e → k < sh.extent - head_blocks (i + j)
    → (n : ℕ) → data_count sh i + n ≡ data_count sh (i + j) + k → slice_get (data_of sh i es) n ≡ Some (first_block sh e.number + head_blocks (i + j) + k)
at_place sh i [] j k e at l n h = absurd (let x : ◌≡◌ {A = Option Extent} None (Some e) = at in cc)
at_place sh i (x ∷ es) zero k e at l n h =
    let plain : i + 0 ≡ i = omega arith in
    let same : x ≡ e = cc in
    let few : k < sh.extent - head_blocks i = subst (λ z. k < sh.extent - head_blocks z) plain l in
    let before : data_count sh (i + 0) ≡ data_count sh i = ap (data_count sh) plain in
    let is : n ≡ k = omega (arith, h, before) in
    let long = blocks_length (first_block sh x.number + head_blocks i) (sh.extent - head_blocks i) in
    ap (slice_get (data_of sh i (x ∷ es))) is
    ∙ get_left (extent_data sh i x.number) (data_of sh (suc i) es) k (omega (arith, few, long))
    ∙ in_range (first_block sh x.number + head_blocks i) (sh.extent - head_blocks i) k few
    ∙ ap (λ (y : Extent). Some (first_block sh y.number + head_blocks i + k)) same
    ∙ ap (λ z. Some (first_block sh e.number + head_blocks z + k)) (sym plain)
at_place sh i (x ∷ es) (suc j) k e at l n h =
    let moved : i + suc j ≡ suc i + j = omega arith in
    let long = blocks_length (first_block sh x.number + head_blocks i) (sh.extent - head_blocks i) in
    let more = count_more sh (suc i) j in
    let there : data_count sh (i + suc j) ≡ data_count sh (suc i + j) = ap (data_count sh) moved in
    let enough : length (extent_data sh i x.number) ≤ n = omega (arith, h, long, more, there) in
    let split : length (extent_data sh i x.number) + (n - length (extent_data sh i x.number)) ≡ n = omega (arith, enough) in
    ap (slice_get (data_of sh i (x ∷ es))) (sym split)
    ∙ get_right (extent_data sh i x.number) (data_of sh (suc i) es) (n - length (extent_data sh i x.number))
    ∙ at_place sh (suc i) es j k e at (subst (λ z. k < sh.extent - head_blocks z) moved l) (n - length (extent_data sh i x.number)) (omega (arith, h, long, enough, there))
    ∙ ap (λ z. Some (first_block sh e.number + head_blocks z + k)) (sym moved)
  where
    count_more : (sh : Shape) (i j : ℕ) → data_count sh i ≤ data_count sh (i + j)
    count_more sh i zero = let e : data_count sh (i + 0) ≡ data_count sh i = ap (data_count sh) (let z : i + 0 ≡ i = omega arith in z) in omega (arith, e)
    count_more sh i (suc j) =
        let m = count_more sh i j in
        let e : data_count sh (i + suc j) ≡ data_count sh (suc (i + j)) = ap (data_count sh) (let z : i + suc j ≡ suc (i + j) = omega arith in z) in
        omega (arith, m, e)

pub places_are_told : PlacesAreTold
places_are_told sh es p n e w at =
    let past = w.past in
    let within = w.within in
    let position = w.position in
    let plain : 0 + p.index ≡ p.index = omega arith in
    let counted : data_count sh (0 + p.index) ≡ data_count sh p.index = ap (data_count sh) plain in
    let head : head_blocks (0 + p.index) ≡ head_blocks p.index = ap head_blocks plain in
    at_place sh 0 es p.index (p.nth - head_blocks p.index) e at (omega (arith, past, within, head)) n (omega (arith, position, counted))
    ∙ ap (λ (x : ℕ). Some x) (let z : first_block sh e.number + head_blocks (0 + p.index) + (p.nth - head_blocks p.index) ≡ first_block sh e.number + p.nth = omega (arith, past, head) in z)
