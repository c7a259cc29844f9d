-- The bests of the upper levels.
use Rattle.std.proofs.Common.{◌≡◌, ℕ, zero, suc, ◌+◌, ◌-◌, ◌<◌, ◌≤◌, max, Bool, true, false, cond, ◌&&◌, eqb, ltb, leb, List, [], ◌∷◌, ◌++◌, length, take, Option, Some, None, refl, sym, ◌∙◌, ap, ap₂, subst, arith, true≢false, eqb-true, eq-eqb, leb-true, leb-false, ltb-true, le-leb, lt-ltb}
use Rattle.seg_words.proofs.Lemmas.{cond-true, cond-false, eqb-false, or_left, or_right, and_parts, and_from}
use Rattle.seg_words.specs.Types.{Shape, first_block, head_blocks}
use Rattle.redo_model.specs.Records.{Record, Extend, FormatBlock, Class, Lower, ExtendRecord, LowerRecord, FormatBlockRecord, ClassRecord}
use Rattle.redo_model.specs.Model.{Extent, extents_of, in_extent, extent_data, data_blocks, high_mark, has_extent, extent_at, index_of, group_start, code_of, good_code, best_of, best_in_extent, best_in_group, best_in_l2, best_of_found, best_in_l1, IsKindAllowed, AreAllowed}
use Rattle.redo_laws.specs.Among.{is_in}
use Rattle.redo_laws.proofs.lists.Bools.{off}
use Rattle.redo_laws.proofs.space.Apart.{Apart, apart_extents}
use Rattle.redo_laws.proofs.space.Places.{in_contains, in_take, in_range, data_in_extent, IsNumber, segments, a_table, same_extent, format_first, extend_out}
use Rattle.space_laws.specs.Bests.{names_l1, names_l2, BestsStay, BestsAreStated}
use Rattle.space_laws.proofs.ExtentsLaw.{found_has, data_at, at_data, same_place}

-- the same codes give the same bests

abbrev SameCodes : Shape → List Record → List Record → ℕ → ℕ → Type 0
SameCodes sh S R i x = (b : ℕ) → is_in b (extent_data sh i x) ≡ true → code_of sh S b ≡ code_of sh R b

best_same : (sh : Shape) (S R : List Record) (bs : List ℕ) → ((b : ℕ) → is_in b bs ≡ true → code_of sh S b ≡ code_of sh R b) → best_of sh S bs ≡ best_of sh R bs
best_same sh S R [] h = refl
best_same sh S R (b ∷ bs) h = ap₂ (λ x y. max (good_code x) y) (h b (or_left _ _ (eq-eqb b b refl))) (best_same sh S R bs (λ c m. h c (or_right (eqb b c) _ m)))

found_same : (sh : Shape) (S R : List Record) (i : ℕ) (o : Option Extent) → ((e : Extent) → o ≡ Some e → SameCodes sh S R i e.number) → best_of_found sh S i o ≡ best_of_found sh R i o
found_same sh S R i None h = refl
found_same sh S R i (Some e) h = best_same sh S R (extent_data sh i e.number) (h e refl)

moved_index : (i j s : ℕ) → suc i + j ≡ i + suc j
moved_index i j s = omega arith

group_same : (sh : Shape) (S R : List Record) (s i : ℕ) (es : List Extent) → ((j : ℕ) (e : Extent) → extent_at es j ≡ Some e → eqb (group_start (i + j)) s ≡ true → SameCodes sh S R (i + j) e.number) → best_in_group sh S s i es ≡ best_in_group sh R s i es
group_same sh S R s i [] h = refl
group_same sh S R s i (e ∷ es) h = ap₂ (λ x y. max x y) (one (eqb (group_start i) s) refl) (group_same sh S R s (suc i) es rest)
  where
    plain : i + 0 ≡ i
    plain = omega arith

    one : (v : Bool) → eqb (group_start i) s ≡ v → cond v (best_in_extent sh S i e.number) 0 ≡ cond v (best_in_extent sh R i e.number) 0
    one false x = refl
    one true x = best_same sh S R (extent_data sh i e.number) (subst (λ n. SameCodes sh S R n e.number) plain (h 0 e refl (subst (λ n. eqb (group_start n) s ≡ true) (sym plain) x)))

    rest : (j : ℕ) (f : Extent) → extent_at es j ≡ Some f → eqb (group_start (suc i + j)) s ≡ true → SameCodes sh S R (suc i + j) f.number
    rest j f x y = subst (λ n. SameCodes sh S R n f.number) (sym (moved_index i j s)) (h (suc j) f x (subst (λ n. eqb (group_start n) s ≡ true) (moved_index i j s) y))

-- in which extent a data block stands

pub index_is : (sh : Shape) (es : List Extent) (j b : ℕ) (e : Extent) → Apart es → extent_at es j ≡ Some e → first_block sh e.number ≤ b → b < first_block sh e.number + sh.extent → index_of sh es b ≡ j
index_is sh [] j b e h x l u = absurd (let z : ◌≡◌ {A = Option Extent} None (Some e) = x in cc)
index_is sh (f ∷ es) zero b e h x l u =
    let same : f ≡ e = cc in
    let here : in_extent sh f.number b ≡ true = subst (λ (z : Extent). in_extent sh z.number b ≡ true) (sym same) (and_from _ _ (le-leb _ _ l) (lt-ltb _ _ u)) in
    at_front sh f es b here
  where
    at_front : (sh : Shape) (f : Extent) (es : List Extent) (b : ℕ) → in_extent sh f.number b ≡ true → index_of sh (f ∷ es) b ≡ 0
    at_front sh f es b h = rw h refl
index_is sh (f ∷ es) (suc j) b e h x l u =
    let not_here : in_extent sh f.number b ≡ false = off _ (λ y.
    let p = and_parts (leb (first_block sh f.number) b) (ltb b (first_block sh f.number + sh.extent)) y in
    let same : f.number ≡ e.number = same_extent sh f.number e.number b (leb-true _ _ p.0) (ltb-true _ _ p.1) l u in
    true≢false (sym (found_has es j e x) ∙ ap (has_extent es) (sym same) ∙ h.0)) in
    behind sh f es b not_here ∙ ap (λ n. suc n) (index_is sh es j b e h.1 x l u)
  where
    behind : (sh : Shape) (f : Extent) (es : List Extent) (b : ℕ) → in_extent sh f.number b ≡ false → index_of sh (f ∷ es) b ≡ suc (index_of sh es b)
    behind sh f es b h = rw h (let z : 1 + index_of sh es b ≡ suc (index_of sh es b) = omega arith in z)

-- a data block of a table stands in no other extent than its own
only_there : (sh : Shape) (R : List Record) (obj dba index o i : ℕ) (e : Extent) → AreAllowed sh R → IsNumber obj → IsNumber o → is_in dba (data_blocks sh R obj) ≡ true → index ≡ index_of sh (extents_of R obj) dba
    → extent_at (extents_of R o) i ≡ Some e → (eqb obj o && eqb index i) ≡ false → is_in dba (extent_data sh i e.number) ≡ false
only_there sh R obj dba index o i e h n m here is at named = off _ (λ y.
    let d = data_at sh 0 (extents_of R obj) dba here in
    let from = d.from in
    let r = data_in_extent sh i e.number dba y in
    let z = same_place sh R obj o d.index i dba d.extent e h n m d.at at (omega (arith, from)) d.to r.0 r.1 in
    let k : index ≡ d.index = is ∙ index_is sh (extents_of R obj) d.index dba d.extent (apart_extents sh R obj h n) d.at (omega (arith, from)) d.to in
    true≢false (sym (and_from (eqb obj o) (eqb index i) (eq-eqb obj o z.0) (eq-eqb index i (k ∙ z.1))) ∙ named))

ne_of : (bs : List ℕ) (d b : ℕ) → is_in d bs ≡ false → is_in b bs ≡ true → eqb d b ≡ false
ne_of bs d b h m = off _ (λ y. true≢false (sym (subst (λ x. is_in x bs ≡ true) (sym (eqb-true d b y)) m) ∙ h))

-- a record leaves the codes of the extents that it doesn't name

abbrev names_code : Record → ℕ → ℕ → Bool
names_code (FormatBlock f) o i = eqb f.obj o && eqb f.index i
names_code (Class k) o i = eqb k.obj o && eqb k.index i
names_code _ o i = false

spared : (sh : Shape) (R : List Record) (r : Record) (o i : ℕ) (e : Extent) → AreAllowed sh R → IsKindAllowed sh R r → IsNumber o → extent_at (extents_of R o) i ≡ Some e → names_code r o i ≡ false → SameCodes sh (r ∷ R) R i e.number
spared sh R (FormatBlock f) o i e h a n at named b m =
    let s = segments sh R h in
    let here = in_take f.dba (high_mark R f.obj) (data_blocks sh R f.obj) (format_first sh R f a).0 in
    let out = only_there sh R f.obj f.dba f.index o i e h (a_table sh R f.obj s a.table) n here a.bitmaps.index_is at named in
    format_code sh R f b (ne_of (extent_data sh i e.number) f.dba b out m)
  where
    format_code : (sh : Shape) (R : List Record) (f : FormatBlockRecord) (b : ℕ) → eqb f.dba b ≡ false → code_of sh (FormatBlock f ∷ R) b ≡ code_of sh R b
    format_code sh R f b x = rw x refl
spared sh R (Class k) o i e h a n at named b m =
    let s = segments sh R h in
    let here = in_take k.dba (high_mark R k.obj) (data_blocks sh R k.obj) (in_contains _ k.dba a.here.here.0 a.here.here.1 a.here.here.2) in
    let out = only_there sh R k.obj k.dba k.index o i e h (a_table sh R k.obj s a.table) n here a.bitmaps.index_is at named in
    class_code' sh R k b (ne_of (extent_data sh i e.number) k.dba b out m)
  where
    class_code' : (sh : Shape) (R : List Record) (k : ClassRecord) (b : ℕ) → eqb k.dba b ≡ false → code_of sh (Class k ∷ R) b ≡ code_of sh R b
    class_code' sh R k b x = rw x refl
spared sh R (Extend x) o i e h a n at named b m =
    let r = in_range b (first_block sh e.number + head_blocks i) (sh.extent - head_blocks i) m in
    let l = r.0 in
    let u = r.1 in
    let here : is_in b (data_blocks sh R o) ≡ true = at_data sh 0 (extents_of R o) i b e at (subst (λ k. first_block sh e.number + head_blocks k ≤ b) (let z : i ≡ 0 + i = omega arith in z) l) (omega (arith, l, u)) in
    extend_code sh R x b (extend_out sh R x a o b n here)
  where
    extend_code : (sh : Shape) (R : List Record) (x : ExtendRecord) (b : ℕ) → in_extent sh x.extent b ≡ false → code_of sh (Extend x ∷ R) b ≡ code_of sh R b
    extend_code sh R x b y = rw y refl
spared sh R _ o i e h a n at named b m = refl

-- extents after a record

at_added : (es : List Extent) (x : Extent) (i : ℕ) → (i ≡ length es → ⊥) → extent_at (es ++ x ∷ []) i ≡ extent_at es i
at_added [] x zero h = absurd (h refl)
at_added [] x (suc i) h = refl
at_added (e ∷ es) x zero h = refl
at_added (e ∷ es) x (suc i) h = at_added es x i (λ z. h (ap (λ n. suc n) z))

at_new : (es : List Extent) (x : Extent) → extent_at (es ++ x ∷ []) (length es) ≡ Some x
at_new [] x = refl
at_new (e ∷ es) x = at_new es x

at_front : (k : ℕ) (es : List Extent) (i : ℕ) → i < k → extent_at (take k es) i ≡ extent_at es i
at_front zero es i l = absurd (omega arith)
at_front (suc k) [] i l = refl
at_front (suc k) (e ∷ es) zero l = refl
at_front (suc k) (e ∷ es) (suc i) l = at_front k es i (omega arith)

at_past : (k : ℕ) (es : List Extent) (i : ℕ) → k ≤ i → extent_at (take k es) i ≡ None
at_past zero es i l = refl
at_past (suc k) [] i l = refl
at_past (suc k) (e ∷ es) zero l = absurd (omega arith)
at_past (suc k) (e ∷ es) (suc i) l = at_past k es i (omega arith)

extend_at : (R : List Record) (e : ExtendRecord) (o i : ℕ) → e.index ≡ length (extents_of R e.obj) → (eqb e.obj o && eqb e.index i) ≡ false → extent_at (extents_of (Extend e ∷ R) o) i ≡ extent_at (extents_of R o) i
extend_at R e o i is named =
    (elim (eqb e.obj o) as (λ v. eqb e.obj o ≡ v → (v && eqb e.index i) ≡ false → extent_at (cond v (extents_of R o ++ record { number = e.extent; incarnation = suc (length R) } ∷ []) (extents_of R o)) i ≡ extent_at (extents_of R o) i) [
      | true ↦ λ y f. at_added (extents_of R o) (record { number = e.extent; incarnation = suc (length R) }) i (λ z.
          let index : e.index ≡ length (extents_of R o) = subst (λ x. e.index ≡ length (extents_of R x)) (eqb-true e.obj o y) is in
          eqb-false e.index i f (index ∙ sym z))
      | false ↦ λ y f. refl
    ]) refl named

lower_at : (R : List Record) (l : LowerRecord) (o i : ℕ) → (eqb l.obj o && leb l.kept i) ≡ false → extent_at (extents_of (Lower l ∷ R) o) i ≡ extent_at (extents_of R o) i
lower_at R l o i named =
    (elim (eqb l.obj o) as (λ v. (v && leb l.kept i) ≡ false → extent_at (cond v (take l.kept (extents_of R o)) (extents_of R o)) i ≡ extent_at (extents_of R o) i) [
      | true ↦ λ f. at_front l.kept (extents_of R o) i (leb-false l.kept i f)
      | false ↦ λ f. refl
    ]) named

-- the L1

l1_spared : (sh : Shape) (R : List Record) (r : Record) (o i : ℕ) → AreAllowed sh (r ∷ R) → IsNumber o → names_code r o i ≡ false → extent_at (extents_of (r ∷ R) o) i ≡ extent_at (extents_of R o) i → best_in_l1 sh (r ∷ R) o i ≡ best_in_l1 sh R o i
l1_spared sh R r o i h n named same =
    ap (best_of_found sh (r ∷ R) i) same ∙ found_same sh (r ∷ R) R i (extent_at (extents_of R o) i) (λ e at. spared sh R r o i e h.0 h.1.kind n at named)

l1_stays : (sh : Shape) (R : List Record) (r : Record) (o i : ℕ) → AreAllowed sh (r ∷ R) → IsNumber o → names_l1 r o i ≡ false → best_in_l1 sh (r ∷ R) o i ≡ best_in_l1 sh R o i
l1_stays sh R (Extend e) o i h n f = l1_spared sh R (Extend e) o i h n refl (extend_at R e o i h.1.kind.index f)
l1_stays sh R (FormatBlock x) o i h n f = l1_spared sh R (FormatBlock x) o i h n f refl
l1_stays sh R (Class k) o i h n f = l1_spared sh R (Class k) o i h n f refl
l1_stays sh R (Lower l) o i h n f = l1_spared sh R (Lower l) o i h n refl (lower_at R l o i f)
l1_stays sh R r o i h n f = l1_spared sh R r o i h n refl refl

-- the L2

in_group : (obj index o i s : ℕ) → (eqb obj o && eqb (group_start index) s) ≡ false → eqb (group_start i) s ≡ true → (eqb obj o && eqb index i) ≡ false
in_group obj index o i s f g = off _ (λ y.
    let p = and_parts (eqb obj o) (eqb index i) y in
    true≢false (sym (and_from (eqb obj o) (eqb (group_start index) s) p.0 (ap (λ n. eqb (group_start n) s) (eqb-true index i p.1) ∙ g)) ∙ f))

l2_spared : (sh : Shape) (R : List Record) (r : Record) (o s : ℕ) → AreAllowed sh (r ∷ R) → IsNumber o → ((i : ℕ) → eqb (group_start i) s ≡ true → names_code r o i ≡ false) → best_in_group sh (r ∷ R) s 0 (extents_of R o) ≡ best_in_l2 sh R o s
l2_spared sh R r o s h n f = group_same sh (r ∷ R) R s 0 (extents_of R o) (λ j e at g. subst (λ k. SameCodes sh (r ∷ R) R k e.number) (let z : j ≡ 0 + j = omega arith in z)
    (spared sh R r o j e h.0 h.1.kind n at (f j (subst (λ k. eqb (group_start k) s ≡ true) (let z : 0 + j ≡ j = omega arith in z) g))))

-- no block of a new extent is formatted
new_codes : (sh : Shape) (R : List Record) (e : ExtendRecord) (bs : List ℕ) → ((b : ℕ) → is_in b bs ≡ true → in_extent sh e.extent b ≡ true) → best_of sh (Extend e ∷ R) bs ≡ 0
new_codes sh R e [] h = refl
new_codes sh R e (b ∷ bs) h =
    let one : good_code (code_of sh (Extend e ∷ R) b) ≡ 0 = zero_code sh R e b (h b (or_left _ _ (eq-eqb b b refl))) in
    ap₂ (λ x y. max x y) one (new_codes sh R e bs (λ c m. h c (or_right (eqb b c) _ m)))
  where
    zero_code : (sh : Shape) (R : List Record) (e : ExtendRecord) (b : ℕ) → in_extent sh e.extent b ≡ true → good_code (code_of sh (Extend e ∷ R) b) ≡ 0
    zero_code sh R e b y = rw y refl

new_best : (sh : Shape) (R : List Record) (e : ExtendRecord) (i : ℕ) → best_in_extent sh (Extend e ∷ R) i e.extent ≡ 0
new_best sh R e i = new_codes sh R e (extent_data sh i e.extent) (λ b m. let r = data_in_extent sh i e.extent b m in and_from _ _ (le-leb _ _ r.0) (lt-ltb _ _ r.1))

group_added : (sh : Shape) (R : List Record) (e : ExtendRecord) (s i : ℕ) (es : List Extent) → best_in_group sh (Extend e ∷ R) s i (es ++ record { number = e.extent; incarnation = suc (length R) } ∷ []) ≡ best_in_group sh (Extend e ∷ R) s i es
group_added sh R e s i [] = (elim (eqb (group_start i) s) as (λ v. max (cond v (best_in_extent sh (Extend e ∷ R) i e.extent) 0) 0 ≡ 0) [ true ↦ ap (λ n. max n 0) (new_best sh R e i) | false ↦ refl ])
group_added sh R e s i (x ∷ es) = ap (max (cond (eqb (group_start i) s) (best_in_extent sh (Extend e ∷ R) i x.number) 0)) (group_added sh R e s (suc i) es)

extend_l2 : (sh : Shape) (R : List Record) (e : ExtendRecord) (o s : ℕ) → best_in_l2 sh (Extend e ∷ R) o s ≡ best_in_group sh (Extend e ∷ R) s 0 (extents_of R o)
extend_l2 sh R e o s = elim (eqb e.obj o) as (λ v. best_in_group sh (Extend e ∷ R) s 0 (cond v (extents_of R o ++ record { number = e.extent; incarnation = suc (length R) } ∷ []) (extents_of R o)) ≡ best_in_group sh (Extend e ∷ R) s 0 (extents_of R o)) [
  | true ↦ group_added sh R e s 0 (extents_of R o)
  | false ↦ refl
]

lower_l2 : (sh : Shape) (R : List Record) (l : LowerRecord) (o s : ℕ) → eqb l.obj o ≡ false → best_in_l2 sh (Lower l ∷ R) o s ≡ best_in_group sh (Lower l ∷ R) s 0 (extents_of R o)
lower_l2 sh R l o s f = ap (best_in_group sh (Lower l ∷ R) s 0) (cond-false _ _ _ f)

l2_stays : (sh : Shape) (R : List Record) (r : Record) (o s : ℕ) → AreAllowed sh (r ∷ R) → IsNumber o → names_l2 r o s ≡ false → best_in_l2 sh (r ∷ R) o s ≡ best_in_l2 sh R o s
l2_stays sh R (Extend e) o s h n f = extend_l2 sh R e o s ∙ l2_spared sh R (Extend e) o s h n (λ i g. refl)
l2_stays sh R (FormatBlock x) o s h n f = l2_spared sh R (FormatBlock x) o s h n (λ i g. in_group x.obj x.index o i s f g)
l2_stays sh R (Class k) o s h n f = l2_spared sh R (Class k) o s h n (λ i g. in_group k.obj k.index o i s f g)
l2_stays sh R (Lower l) o s h n f = lower_l2 sh R l o s f ∙ l2_spared sh R (Lower l) o s h n (λ i g. refl)
l2_stays sh R r o s h n f = l2_spared sh R r o s h n (λ i g. refl)

pub bests_stay : BestsStay
bests_stay sh R r o h one most =
    let n : IsNumber o = record { least = one; most = most } in
    record { l1 = λ i f. l1_stays sh R r o i h n f; l2 = λ s f. l2_stays sh R r o s h n f }

-- what is stated

extend_first : (sh : Shape) (R : List Record) (e : ExtendRecord) → e.index ≡ length (extents_of R e.obj) → best_in_l1 sh (Extend e ∷ R) e.obj e.index ≡ 0
extend_first sh R e is =
    let new : Extent = record { number = e.extent; incarnation = suc (length R) } in
    let at : extent_at (extents_of (Extend e ∷ R) e.obj) e.index ≡ Some new =
    ap (λ (es : List Extent). extent_at es e.index) (cond-true _ _ _ (eq-eqb e.obj e.obj refl)) ∙ ap (extent_at (extents_of R e.obj ++ new ∷ [])) is ∙ at_new (extents_of R e.obj) new in
    ap (best_of_found sh (Extend e ∷ R) e.index) at ∙ new_best sh R e e.index

lower_past : (sh : Shape) (R : List Record) (l : LowerRecord) (i : ℕ) → l.kept ≤ i → best_in_l1 sh (Lower l ∷ R) l.obj i ≡ 0
lower_past sh R l i k = ap (best_of_found sh (Lower l ∷ R) i) (ap (λ (es : List Extent). extent_at es i) (cond-true _ _ _ (eq-eqb l.obj l.obj refl)) ∙ at_past l.kept (extents_of R l.obj) i k)

pub bests_are_stated : BestsAreStated
bests_are_stated sh R = record {
  format_l1 = λ f h. sym h.1.kind.bests.l1;
  format_l2 = λ f h. sym h.1.kind.bests.l2;
  class_l1 = λ k h. sym h.1.kind.bests.l1;
  class_l2 = λ k h. sym h.1.kind.bests.l2;
  extend_l1 = λ e h. extend_first sh R e h.1.kind.index;
  lower_l1 = λ l i h k. lower_past sh R l i k;
  lower_l2 = λ l h. h.1.kind.bests;
}
