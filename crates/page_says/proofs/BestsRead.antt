-- The bests that the model names, by the codes of the pages.
use Rattle.std.proofs.Common.{◌≡◌, ℕ, zero, suc, ◌+◌, ◌-◌, ◌%◌, ◌<◌, ◌≤◌, min, max, true, false, cond, eqb, ltb, List, [], ◌∷◌, length, take, slice_index, slice_set, Option, Some, None, refl, sym, ◌∙◌, ap, ap₂, subst, arith, inl, inr, true≢false, ltb-true, ltb-false}
use Rattle.std.proofs.lemmas.Bool.{cases_Bool, eqb-true, eq-eqb, ne_eqb, cond-true, cond-false, or_cases, or_left, or_right}
use Rattle.seg_words.specs.Types.{MOST_EXTENTS, EXTENTS_OF_L2, MOST_EXTENT_BLOCKS}
use Rattle.seg_base.specs.Classes.{class_code}
use Rattle.seg_base.specs.declared.shape.Shape.{Shape}
use Rattle.seg_base.specs.Places.{first_block}
use Rattle.bitmap_block.specs.Codes as codes
use Rattle.bitmap_block.specs.Pages.{ExtentMap, Summary}
use Rattle.redo_record.specs.declared.record.Record.{Record}
use Rattle.redo_record.specs.declared.record.Record.TheVariants.{Class, Lower}
use Rattle.redo_record.specs.declared.space.ClassRecord.{ClassRecord}
use Rattle.redo_record.specs.declared.space.LowerRecord.{LowerRecord}
use Rattle.redo_model.specs.Kept.{kept_class, code_of, good_code, best_of, best_in_extent, best_in_group, best_in_l1, best_in_l2, best_of_found}
use Rattle.redo_model.specs.Segments.{Extent, extents_of, extent_data, extent_at, group_start, is_formatted}
use Rattle.redo_model.specs.Lawful.{AreAllowed}
use Rattle.redo_laws.specs.Among.{is_in}
use Rattle.redo_laws.proofs.numbers.Bounds.{Limits, limits}
use Rattle.redo_laws.proofs.space.ApartLaw.{placed}
use Rattle.redo_laws.proofs.space.Places.{data_in_extent}
use Rattle.space_laws.proofs.ExtentsLaw.{same_place}
use Rattle.sort_laws.proofs.SortsLaw.{has_number, group_twice}
use Rattle.page_says.specs.Levels.{told_code, FirstSays, SecondSays}
use Rattle.page_says.specs.LevelBests.{BestsAreRead, ClassBestsAreRead, LowerBestsAreRead}
use Rattle.page_says.proofs.Groups.{group_of, group_index}
use Rattle.page_says.proofs.FirstLevel.{coded_first}
use Rattle.page_says.proofs.SecondLevel.{coded_second, cleared_below, cleared_past, cleared_count}

-- ---- the greatest of several

max_most : (a b n : ℕ) → a ≤ n → b ≤ n → max a b ≤ n
max_most a b n l k = omega (arith, l, k)

max_left : (a b : ℕ) → a ≤ max a b
max_left a b = omega arith

max_right : (a b n : ℕ) → n ≤ b → n ≤ max a b
max_right a b n l = omega (arith, l)

as_one : (a b : ℕ) → a ≤ b → b ≤ a → a ≡ b
as_one a b l k = omega (arith, l, k)

good_same : (c : ℕ) → codes.good_code c ≡ good_code c
good_same c = refl

page_most : (cs : List ℕ) (n : ℕ) → ((j : ℕ) → j < length cs → good_code (slice_index cs j) ≤ n) → codes.best_of cs ≤ n
page_most [] n h = omega arith
page_most (c ∷ cs) n h = max_most (codes.good_code c) (codes.best_of cs) n (subst (λ (g : ℕ). g ≤ n) (sym (good_same c)) (h 0 (omega arith))) (page_most cs n (λ j lt. h (suc j) (omega (arith, lt))))

page_least : (cs : List ℕ) (j : ℕ) → j < length cs → good_code (slice_index cs j) ≤ codes.best_of cs
page_least [] j lt = absurd (omega (arith, lt))
page_least (c ∷ cs) zero lt = subst (λ (g : ℕ). g ≤ max (codes.good_code c) (codes.best_of cs)) (good_same c) (max_left (codes.good_code c) (codes.best_of cs))
page_least (c ∷ cs) (suc j) lt = max_right (codes.good_code c) (codes.best_of cs) (good_code (slice_index cs j)) (page_least cs j (omega (arith, lt)))

blocks_most : (sh : Shape) (R : List Record) (bs : List ℕ) (n : ℕ) → ((b : ℕ) → is_in b bs ≡ true → good_code (code_of sh R b) ≤ n) → best_of sh R bs ≤ n
blocks_most sh R [] n h = omega arith
blocks_most sh R (b ∷ bs) n h = max_most (good_code (code_of sh R b)) (best_of sh R bs) n (h b (or_left (eqb b b) _ (eq-eqb b b refl))) (blocks_most sh R bs n (λ c m. h c (or_right (eqb b c) _ m)))

blocks_least : (sh : Shape) (R : List Record) (bs : List ℕ) (b : ℕ) → is_in b bs ≡ true → good_code (code_of sh R b) ≤ best_of sh R bs
blocks_least sh R [] b m = absurd (true≢false (sym m))
blocks_least sh R (c ∷ bs) b m = elim (or_cases (eqb c b) (is_in b bs) m) [
  | inl y ↦ subst (λ (x : ℕ). good_code (code_of sh R x) ≤ best_of sh R (c ∷ bs)) (eqb-true c b y) (max_left (good_code (code_of sh R c)) (best_of sh R bs))
  | inr z ↦ max_right (good_code (code_of sh R c)) (best_of sh R bs) (good_code (code_of sh R b)) (blocks_least sh R bs b z)
]

-- a best is 0 or from 2 on
good_zero : good_code 0 ≡ 0
good_zero = refl

good_twice : (c : ℕ) → good_code (good_code c) ≡ good_code c
good_twice c = elim (cases_Bool (ltb c 2)) [
  | inl y ↦ ap good_code (cond-true _ _ _ y) ∙ sym (cond-true (ltb c 2) 0 c y)
  | inr f ↦ ap good_code (cond-false (ltb c 2) 0 c f)
]

good_max : (a b : ℕ) → good_code a ≡ a → good_code b ≡ b → good_code (max a b) ≡ max a b
good_max a b p q = elim (cases_Bool (ltb a b)) [
  | inl y ↦ (let l = ltb-true a b y in let z : max a b ≡ b = omega (arith, l) in ap good_code z ∙ q ∙ sym z)
  | inr f ↦ (let l = ltb-false a b f in let z : max a b ≡ a = omega (arith, l) in ap good_code z ∙ p ∙ sym z)
]

best_good : (sh : Shape) (R : List Record) (bs : List ℕ) → good_code (best_of sh R bs) ≡ best_of sh R bs
best_good sh R [] = good_zero
best_good sh R (b ∷ bs) = good_max (good_code (code_of sh R b)) (best_of sh R bs) (good_twice (code_of sh R b)) (best_good sh R bs)

-- ---- the best of an extent

first_best : (sh : Shape) (R : List Record) (index : ℕ) (e : Extent) (m : ExtentMap) → Limits sh → FirstSays sh R index e m → codes.best_of m.codes ≡ best_in_extent sh R index e.number
first_best sh R index e m lim x =
    let bs : List ℕ = extent_data sh index e.number in
    let n : ℕ = best_in_extent sh R index e.number in
    let count = x.count in
    as_one (codes.best_of m.codes) n
    (page_most m.codes n (λ j lt. subst (λ (c : ℕ). good_code c ≤ n) (sym (x.code j (omega (arith, lt, count)))) (told (first_block sh e.number + j))))
    (blocks_most sh R bs (codes.best_of m.codes) (λ b y.
    let r = data_in_extent sh index e.number b y in
    let most = lim.extent_to in
    let from = r.0 in
    let to = r.1 in
    let j : ℕ = b - first_block sh e.number in
    let at : first_block sh e.number + j ≡ b = omega (arith, from) in
    let small : j < MOST_EXTENT_BLOCKS = omega (arith, from, to, most) in
    let code : slice_index m.codes j ≡ code_of sh R b = x.code j small ∙ ap (told_code sh R index e.number) at ∙ cond-true (is_in b bs) (code_of sh R b) 0 y in
    subst (λ (c : ℕ). good_code c ≤ codes.best_of m.codes) code (page_least m.codes j (omega (arith, small, count)))))
  where
    told : (b : ℕ) → good_code (told_code sh R index e.number b) ≤ best_in_extent sh R index e.number
    told b = (elim (is_in b (extent_data sh index e.number)) as (λ v. is_in b (extent_data sh index e.number) ≡ v → good_code (cond v (code_of sh R b) 0) ≤ best_in_extent sh R index e.number) [
      | true ↦ λ y. blocks_least sh R (extent_data sh index e.number) b y
      | false ↦ λ y. omega arith
    ]) refl

-- ---- the best of a group

plain : (i : ℕ) → i + 0 ≡ i
plain i = omega arith

moved : (i j : ℕ) → suc i + j ≡ i + suc j
moved i j = omega arith

group_most : (sh : Shape) (R : List Record) (s i : ℕ) (es : List Extent) (n : ℕ) → ((j : ℕ) (e : Extent) → extent_at es j ≡ Some e → group_start (i + j) ≡ s → best_in_extent sh R (i + j) e.number ≤ n) → best_in_group sh R s i es ≤ n
group_most sh R s i [] n h = omega arith
group_most sh R s i (e ∷ es) n h =
    max_most (cond (eqb (group_start i) s) (best_in_extent sh R i e.number) 0) (best_in_group sh R s (suc i) es) n
    (elim (cases_Bool (eqb (group_start i) s)) [
      | inl y ↦ subst (λ (c : ℕ). c ≤ n) (sym (cond-true _ _ _ y)) (subst (λ (k : ℕ). best_in_extent sh R k e.number ≤ n) (plain i) (h 0 e refl (ap group_start (plain i) ∙ eqb-true (group_start i) s y)))
      | inr f ↦ subst (λ (c : ℕ). c ≤ n) (sym (cond-false _ _ _ f)) (omega arith)
    ])
    (group_most sh R s (suc i) es n (λ j f at g. subst (λ (k : ℕ). best_in_extent sh R k f.number ≤ n) (sym (moved i j)) (h (suc j) f at (ap group_start (sym (moved i j)) ∙ g))))

group_least : (sh : Shape) (R : List Record) (s i : ℕ) (es : List Extent) (j : ℕ) (e : Extent) → extent_at es j ≡ Some e → group_start (i + j) ≡ s → best_in_extent sh R (i + j) e.number ≤ best_in_group sh R s i es
group_least sh R s i [] j e at g = absurd (let z : ◌≡◌ {A = Option Extent} None (Some e) = at in cc)
group_least sh R s i (f ∷ es) zero e at g =
    let same : f ≡ e = cc in
    let here : eqb (group_start i) s ≡ true = eq-eqb (group_start i) s (ap group_start (sym (plain i)) ∙ g) in
    subst (λ (c : ℕ). c ≤ best_in_group sh R s i (f ∷ es)) (cond-true (eqb (group_start i) s) (best_in_extent sh R i f.number) 0 here ∙ ap₂ (λ (k : ℕ) (x : Extent). best_in_extent sh R k x.number) (sym (plain i)) same)
    (max_left (cond (eqb (group_start i) s) (best_in_extent sh R i f.number) 0) (best_in_group sh R s (suc i) es))
group_least sh R s i (f ∷ es) (suc j) e at g =
    max_right (cond (eqb (group_start i) s) (best_in_extent sh R i f.number) 0) (best_in_group sh R s (suc i) es) (best_in_extent sh R (i + suc j) e.number)
    (subst (λ (k : ℕ). best_in_extent sh R k e.number ≤ best_in_group sh R s (suc i) es) (moved i j) (group_least sh R s (suc i) es j e at (ap group_start (moved i j) ∙ g)))

at_below : (es : List Extent) (j : ℕ) (e : Extent) → extent_at es j ≡ Some e → j < length es
at_below [] j e at = absurd (let z : ◌≡◌ {A = Option Extent} None (Some e) = at in cc)
at_below (f ∷ es) zero e at = omega arith
at_below (f ∷ es) (suc j) e at = (let l = at_below es j e at in omega (arith, l))

second_best : (sh : Shape) (R : List Record) (o start : ℕ) (m : Summary) → length (extents_of R o) ≤ MOST_EXTENTS → group_start start ≡ start → SecondSays sh R o start m → codes.best_of m.codes ≡ best_in_l2 sh R o start
second_best sh R o start m few g x =
    let es : List Extent = extents_of R o in
    let n : ℕ = best_in_l2 sh R o start in
    let count = x.count in
    as_one (codes.best_of m.codes) n
    (page_most m.codes n (λ j lt. (let small : j < EXTENTS_OF_L2 = omega (arith, lt, count) in subst (λ (c : ℕ). good_code c ≤ n) (sym (x.code j small)) (below j small (extent_at es (start + j)) refl))))
    (group_most sh R start 0 es (codes.best_of m.codes) (λ j e at h.
    let index : 0 + j ≡ j = omega arith in
    let l = at_below es j e at in
    let place : start + j % EXTENTS_OF_L2 ≡ j = group_index j start (omega (arith, l, few)) (ap group_start (sym index) ∙ h) in
    let code : slice_index m.codes (j % EXTENTS_OF_L2) ≡ best_in_extent sh R j e.number = x.code (j % EXTENTS_OF_L2) (omega arith) ∙ ap (best_in_l1 sh R o) place ∙ ap (best_of_found sh R j) at in
    subst (λ (k : ℕ). best_in_extent sh R k e.number ≤ codes.best_of m.codes) (sym index)
    (subst (λ (c : ℕ). c ≤ codes.best_of m.codes) (ap good_code code ∙ best_good sh R (extent_data sh j e.number)) (page_least m.codes (j % EXTENTS_OF_L2) (omega (arith, count))))))
  where
    below : (j : ℕ) → j < EXTENTS_OF_L2 → (y : Option Extent) → extent_at (extents_of R o) (start + j) ≡ y → good_code (best_in_l1 sh R o (start + j)) ≤ best_in_l2 sh R o start
    below j small None at = subst (λ (z : Option Extent). good_code (best_of_found sh R (start + j) z) ≤ best_in_l2 sh R o start) (sym at) (omega arith)
    below j small (Some e) at =
        let index : 0 + (start + j) ≡ start + j = omega arith in
        subst (λ (z : Option Extent). good_code (best_of_found sh R (start + j) z) ≤ best_in_l2 sh R o start) (sym at)
        (subst (λ (c : ℕ). c ≤ best_in_l2 sh R o start) (sym (best_good sh R (extent_data sh (start + j) e.number)))
        (subst (λ (k : ℕ). best_in_extent sh R k e.number ≤ best_in_l2 sh R o start) index (group_least sh R start 0 (extents_of R o) (start + j) e at (ap group_start index ∙ group_of start j g small))))

pub bests_are_read : BestsAreRead
bests_are_read sh R s h = record {
  first = λ index e m x. first_best sh R index e m (limits sh s) x;
  second = λ o index m x. second_best sh R o (group_start index) m (placed sh R o h).few (group_twice index) x;
}

-- ---- with a class changed

best_same : (sh : Shape) (S R : List Record) (bs : List ℕ) → ((b : ℕ) → is_in b bs ≡ true → code_of sh S b ≡ code_of sh R b) → best_of sh S bs ≡ best_of sh R bs
best_same sh S R [] h = refl
best_same sh S R (b ∷ bs) h = ap₂ (λ x y. max (good_code x) y) (h b (or_left (eqb b b) _ (eq-eqb b b refl))) (best_same sh S R bs (λ c m. h c (or_right (eqb b c) _ m)))

class_same : (sh : Shape) (R : List Record) (k : ClassRecord) (b : ℕ) → eqb k.dba b ≡ false → code_of sh (Class k ∷ R) b ≡ code_of sh R b
class_same sh R k b x = rw x refl

-- the extents that the block doesn't stand in
class_others : (sh : Shape) (R : List Record) (o index : ℕ) (e : Extent) (k : ClassRecord) (j : ℕ) → AreAllowed sh R → extent_at (extents_of R o) index ≡ Some e → is_in k.dba (extent_data sh index e.number) ≡ true → (index ≡ j → ⊥)
    → best_in_l1 sh (Class k ∷ R) o j ≡ best_in_l1 sh R o j
class_others sh R o index e k j h at here ne = go (extent_at (extents_of R o) j) refl
  where
    go : (x : Option Extent) → extent_at (extents_of R o) j ≡ x → best_of_found sh (Class k ∷ R) j x ≡ best_of_found sh R j x
    go None y = refl
    go (Some f) y = best_same sh (Class k ∷ R) R (extent_data sh j f.number) (λ b m. class_same sh R k b (ne_eqb k.dba b (λ same.
        let n = has_number sh R o index e h at in
        let p = data_in_extent sh index e.number k.dba here in
        let q = data_in_extent sh j f.number k.dba (subst (λ (c : ℕ). is_in c (extent_data sh j f.number) ≡ true) (sym same) m) in
        ne ((same_place sh R o o index j k.dba e f h n n at y p.0 p.1 q.0 q.1).1))))

pub class_bests_are_read : ClassBestsAreRead
class_bests_are_read sh R o index e k m1 m2 s h at here formatted x1 x2 =
    let S : List Record = Class k ∷ R in
    let lim = limits sh s in
    let most = lim.extent_to in
    let r = data_in_extent sh index e.number k.dba here in
    let from = r.0 in
    let to = r.1 in
    let v : ℕ = k.dba - first_block sh e.number in
    let c : ℕ = class_code k.class in
    let few = (placed sh R o h).few in
    let i : ℕ = group_start index in
    let n1 : ExtentMap = record m1 { codes = slice_set m1.codes v c } in
    let first : FirstSays sh S index e n1 = coded_first sh R S index k.dba c v e m1 n1 x1 (refl, refl) (omega (arith, from)) (omega (arith, from, to, most)) here
    (cond-true (is_formatted sh R k.dba) (class_code (kept_class S k.dba)) 0 formatted ∙ ap class_code (cond-true _ _ _ (eq-eqb k.dba k.dba refl)))
    (λ y ne. class_same sh R k y (ne_eqb k.dba y ne)) in
    let l1 : best_in_l1 sh S o index ≡ codes.best_of (slice_set m1.codes v c) = ap (best_of_found sh S index) at ∙ sym (first_best sh S index e n1 lim first) in
    let b : ℕ = best_in_l1 sh S o index in
    let n2 : Summary = record m2 { codes = slice_set m2.codes (index % EXTENTS_OF_L2) b } in
    let l = at_below (extents_of R o) index e at in
    let second : SecondSays sh S o i n2 = coded_second sh R S o i index (index % EXTENTS_OF_L2) b m2 n2 x2 refl (omega arith) (group_index index i (omega (arith, l, few)) refl) refl (λ j ne. class_others sh R o index e k j h at here ne) in
    record { l1 = l1; l2 = sym (second_best sh S o i n2 few (group_twice index) second) }

-- ---- with marks lowered

lower_codes : (sh : Shape) (R : List Record) (l : LowerRecord) (i : ℕ) (x : Option Extent) → best_of_found sh (Lower l ∷ R) i x ≡ best_of_found sh R i x
lower_codes sh R l i None = refl
lower_codes sh R l i (Some e) = best_same sh (Lower l ∷ R) R (extent_data sh i e.number) (λ b m. refl)

at_front : (k : ℕ) (es : List Extent) (i : ℕ) → i < k → extent_at (take k es) i ≡ extent_at es i
at_front zero es i l = absurd (omega (arith, l))
at_front (suc k) [] i l = refl
at_front (suc k) (e ∷ es) zero l = refl
at_front (suc k) (e ∷ es) (suc i) l = at_front k es i (omega (arith, l))

at_past : (k : ℕ) (es : List Extent) (i : ℕ) → k ≤ i → extent_at (take k es) i ≡ None
at_past zero es i l = refl
at_past (suc k) [] i l = refl
at_past (suc k) (e ∷ es) zero l = absurd (omega (arith, l))
at_past (suc k) (e ∷ es) (suc i) l = at_past k es i (omega (arith, l))

take_few : (k : ℕ) (es : List Extent) → length (take k es) ≤ length es
take_few zero es = omega arith
take_few (suc k) [] = omega arith
take_few (suc k) (e ∷ es) = (let l = take_few k es in omega (arith, l))

group_none : (sh : Shape) (R : List Record) (o start : ℕ) → length (extents_of R o) ≤ MOST_EXTENTS → group_start start ≡ start → extent_at (extents_of R o) start ≡ None → best_in_l2 sh R o start ≡ 0
group_none sh R o start few g none = as_one (best_in_l2 sh R o start) 0 (group_most sh R start 0 (extents_of R o) 0 (λ j e at h.
    let index : 0 + j ≡ j = omega arith in
    let l = at_below (extents_of R o) j e at in
    let place : start + j % EXTENTS_OF_L2 ≡ j = group_index j start (omega (arith, l, few)) (ap group_start (sym index) ∙ h) in
    absurd (gone (extents_of R o) start j e none at (omega (arith, place))))) (omega arith)
  where
    gone : (es : List Extent) (i j : ℕ) (e : Extent) → extent_at es i ≡ None → extent_at es j ≡ Some e → i ≤ j → ⊥
    gone [] i j e n y l = (let z : ◌≡◌ {A = Option Extent} None (Some e) = y in cc)
    gone (f ∷ es) zero j e n y l = (let z : ◌≡◌ {A = Option Extent} (Some f) None = n in cc)
    gone (f ∷ es) (suc i) zero e n y l = omega (arith, l)
    gone (f ∷ es) (suc i) (suc j) e n y l = gone es i j e n y (omega (arith, l))

pub lower_bests_are_read : LowerBestsAreRead
lower_bests_are_read sh R l start s h g =
    let S : List Record = Lower l ∷ R in
    let o : ℕ = l.obj in
    let es : List Extent = extents_of R o in
    let few = (placed sh R o h).few in
    let now : extents_of S o ≡ take l.kept es = cond-true _ _ _ (eq-eqb o o refl) in
    let fewer : length (extents_of S o) ≤ MOST_EXTENTS = subst (λ (xs : List Extent). length xs ≤ MOST_EXTENTS) (sym now) (let k = take_few l.kept es in omega (arith, k, few)) in
    let best : (i : ℕ) → best_in_l1 sh S o i ≡ best_of_found sh R i (extent_at (take l.kept es) i) = λ i. lower_codes sh R l i (extent_at (extents_of S o) i) ∙ ap (λ (xs : List Extent). best_of_found sh R i (extent_at xs i)) now in
    let t : ℕ = min (l.kept - start) EXTENTS_OF_L2 in
    record {
      there = λ m x. sym (second_best sh S o start (record m { codes = codes.cleared_from EXTENTS_OF_L2 t m.codes }) fewer g (record {
        count = cleared_count t EXTENTS_OF_L2 m.codes x.count;
        code = λ j lt. elim (cases_Bool (ltb j t)) [
          | inl y ↦
              let less = ltb-true j t y in
              cleared_below t EXTENTS_OF_L2 j m.codes x.count less ∙ x.code j lt ∙ sym (best (start + j) ∙ ap (best_of_found sh R (start + j)) (at_front l.kept es (start + j) (omega (arith, less))))
          | inr y ↦
              let more = ltb-false j t y in
              cleared_past t EXTENTS_OF_L2 j m.codes x.count more ∙ sym (best (start + j) ∙ ap (best_of_found sh R (start + j)) (at_past l.kept es (start + j) (omega (arith, more, lt))))
        ];
      }));
      none = λ y. group_none sh S o start fewer g (ap (λ (xs : List Extent). extent_at xs start) now ∙ shorter l.kept es start y);
    }
  where
    shorter : (k : ℕ) (es : List Extent) (i : ℕ) → extent_at es i ≡ None → extent_at (take k es) i ≡ None
    shorter zero es i y = refl
    shorter (suc k) [] i y = y
    shorter (suc k) (e ∷ es) zero y = y
    shorter (suc k) (e ∷ es) (suc i) y = shorter k es i y
