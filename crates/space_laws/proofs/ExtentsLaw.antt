-- Extents: what stays, what is freed, and what each of their blocks is.
use Rattle.std.proofs.Common.{◌≡◌, ◌⊎◌, ℕ, zero, suc, ◌+◌, ◌-◌, ◌<◌, ◌≤◌, Bool, true, false, cond, not, ◌&&◌, ◌||◌, eqb, ltb, leb, List, [], ◌∷◌, ◌++◌, length, take, drop, Option, Some, None, refl, sym, ◌∙◌, ap, ap₂, subst, arith, inl, inr, le_refl, true≢false, eqb-true, eq-eqb, leb-true, ltb-true, leb-false, lt-ltb, ◌*◌}
use Rattle.seg_words.proofs.Lemmas.{cond-true, cases_Bool, cases_order, eqb-false, or_left, or_right, and_parts}
use Rattle.seg_words.specs.Types.{Shape, first_block, head_blocks, MOST_TABLES, EXTENTS_OF_L2}
use Rattle.redo_model.specs.Records.{Record, Extend, Lower, LowerRecord}
use Rattle.redo_model.specs.Model.{Extends, Extent, extents_of, blocks_from, extent_data, data_of, data_blocks, has_extent, is_taken, extent_at, block_in, group_start, LowerAllowed, IsKindAllowed, AreAllowed}
use Rattle.redo_model.specs.Lists.{same, more}
use Rattle.redo_laws.specs.Among.{is_in}
use Rattle.redo_laws.proofs.space.Apart.{Apart, apart_extents}
use Rattle.redo_laws.proofs.lists.Bools.{off}
use Rattle.redo_laws.proofs.space.ApartLaw.{number_in, placed}
use Rattle.redo_laws.proofs.numbers.Bounds.{limits}
use Rattle.redo_laws.proofs.space.Places.{in_contains, contains_in, in_left, in_right, in_either, in_range, IsNumber, Segments, segments, same_extent, a_table}
use Rattle.space_laws.specs.Extents.{IsFreedBy, ExtentsStay, FirstExtentsStay, LowersFreeWhatTheyName, EachBlockHasOneRole}

-- places in a list of extents

pub found_has : (es : List Extent) (i : ℕ) (e : Extent) → extent_at es i ≡ Some e → has_extent es e.number ≡ true
found_has [] i e h = absurd (let x : ◌≡◌ {A = Option Extent} None (Some e) = h in cc)
found_has (f ∷ es) zero e h = let same : f ≡ e = cc in or_left _ _ (eq-eqb f.number e.number (ap (λ (x : Extent). x.number) same))
found_has (f ∷ es) (suc i) e h = or_right (eqb f.number e.number) _ (found_has es i e h)

at_longer : (es fs : List Extent) (n : ℕ) (e : Extent) → extent_at es n ≡ Some e → extent_at (es ++ fs) n ≡ Some e
at_longer [] fs n e h = absurd (let x : ◌≡◌ {A = Option Extent} None (Some e) = h in cc)
at_longer (x ∷ es) fs zero e h = h
at_longer (x ∷ es) fs (suc n) e h = at_longer es fs n e h

at_taken : (k : ℕ) (es : List Extent) (n : ℕ) (e : Extent) → n < k → extent_at es n ≡ Some e → extent_at (take k es) n ≡ Some e
at_taken zero es n e l h = absurd (omega arith)
at_taken (suc k) [] n e l h = h
at_taken (suc k) (x ∷ es) zero e l h = h
at_taken (suc k) (x ∷ es) (suc n) e l h = at_taken k es n e (omega arith) h

at_dropped : (k : ℕ) (es : List Extent) (n : ℕ) (e : Extent) → k ≤ n → extent_at es n ≡ Some e → has_extent (drop k es) e.number ≡ true
at_dropped zero es n e l h = found_has es n e h
at_dropped (suc k) [] n e l h = absurd (let x : ◌≡◌ {A = Option Extent} None (Some e) = h in cc)
at_dropped (suc k) (x ∷ es) zero e l h = absurd (omega arith)
at_dropped (suc k) (x ∷ es) (suc n) e l h = at_dropped k es n e (omega arith) h

-- what stays

extents_step : (sh : Shape) (R : List Record) (r : Record) (o n : ℕ) (e : Extent) → IsKindAllowed sh R r → extent_at (extents_of R o) n ≡ Some e → (extent_at (extents_of (r ∷ R) o) n ≡ Some e) ⊎ IsFreedBy r o n e
extents_step sh R (Extend x) o n e a h =
    elim (eqb x.obj o) as (λ v. (extent_at (cond v (extents_of R o ++ record { number = x.extent; incarnation = suc (length R) } ∷ []) (extents_of R o)) n ≡ Some e) ⊎ IsFreedBy (Extend x) o n e) [
      | true ↦ inl (at_longer (extents_of R o) _ n e h)
      | false ↦ inl h
    ]
extents_step sh R (Lower l) o n e a h =
    (elim (eqb l.obj o) as (λ v. eqb l.obj o ≡ v → (extent_at (cond v (take l.kept (extents_of R o)) (extents_of R o)) n ≡ Some e) ⊎ IsFreedBy (Lower l) o n e) [
      | true ↦ λ y. elim (cases_Bool (leb l.kept n)) [
        | inr f ↦ inl (at_taken l.kept (extents_of R o) n e (leb-false l.kept n f) h)
        | inl t ↦
            let same : l.obj ≡ o = eqb-true l.obj o y in
            let dropped : has_extent (drop l.kept (extents_of R l.obj)) e.number ≡ true = at_dropped l.kept (extents_of R l.obj) n e (leb-true l.kept n t) (subst (λ x. extent_at (extents_of R x) n ≡ Some e) (sym same) h) in
            inr (record {
              lower = l;
              is = refl;
              table = same;
              past = leb-true l.kept n t;
              first_stays = (let k = a.longest in omega (arith, k));
              named = ap (λ (xs : List ℕ). is_in e.number xs) a.released ∙ number_in (drop l.kept (extents_of R l.obj)) e.number ∙ dropped;
            })
      ]
      | false ↦ λ y. inl h
    ]) refl
extents_step sh R r o n e a h = inl h

pub extents_stay : ExtentsStay
extents_stay sh R r o n e a h = extents_step sh R r o n e a.1.kind h

first_step : (sh : Shape) (R : List Record) (r : Record) (o : ℕ) (e : Extent) → IsKindAllowed sh R r → extent_at (extents_of R o) 0 ≡ Some e → extent_at (extents_of (r ∷ R) o) 0 ≡ Some e
first_step sh R r o e a h = elim (extents_step sh R r o 0 e a h) [ inl y ↦ y | inr f ↦ (let p = f.past in let q = f.first_stays in absurd (omega (arith, p, q))) ]

first_extent : (sh : Shape) (Q : List Record) (o : ℕ) (e : Extent) (R : List Record) → AreAllowed sh R → Extends Q R → extent_at (extents_of Q o) 0 ≡ Some e → extent_at (extents_of R o) 0 ≡ Some e
first_extent sh Q o e R a same h = h
first_extent sh Q o e (r ∷ R) a (more _ x) h = first_step sh R r o e a.1.kind (first_extent sh Q o e R a.0 x h)

pub first_extents_stay : FirstExtentsStay
first_extents_stay sh Q R o e a x h =
    let f = first_extent sh Q o e R a x h in
    let same : extent_at (extents_of R o) 0 ≡ extent_at (extents_of Q o) 0 = f ∙ sym h in
    record {
      extent = f;
      header = ap (λ (z : Option Extent). block_in sh z 3) same;
      l3 = ap (λ (z : Option Extent). block_in sh z 2) same;
      first_l2 = λ i l.
          let g : group_start i ≡ 0 = cond-true _ _ _ (lt i l) in
          ap (λ n. block_in sh (extent_at (extents_of R o) n) 1) g ∙ ap (λ (z : Option Extent). block_in sh z 1) same ∙ ap (λ n. block_in sh (extent_at (extents_of Q o) n) 1) (sym g);
    }
  where
    lt : (i : ℕ) → i < EXTENTS_OF_L2 → ltb i EXTENTS_OF_L2 ≡ true
    lt i l = lt-ltb i EXTENTS_OF_L2 l

-- what is freed

has_dropped : (k : ℕ) (es : List Extent) (x : ℕ) → has_extent (drop k es) x ≡ true → has_extent es x ≡ true
has_dropped zero es x h = h
has_dropped (suc k) [] x h = h
has_dropped (suc k) (e ∷ es) x h = or_right (eqb e.number x) _ (has_dropped k es x h)

not_both : (b : Bool) → false ≡ (b && not b)
not_both true = refl
not_both false = refl

apart_split : (k : ℕ) (es : List Extent) (x : ℕ) → Apart es → has_extent (take k es) x ≡ (has_extent es x && not (has_extent (drop k es) x))
apart_split zero es x h = not_both (has_extent es x)
apart_split (suc k) [] x h = refl
apart_split (suc k) (e ∷ es) x h =
    (elim (eqb e.number x) as (λ v. eqb e.number x ≡ v → (v || has_extent (take k es) x) ≡ ((v || has_extent es x) && not (has_extent (drop k es) x))) [
      | true ↦ λ y.
          let lacks : has_extent (drop k es) x ≡ false = off _ (λ d. true≢false (sym (has_dropped k es x d) ∙ ap (has_extent es) (sym (eqb-true e.number x y)) ∙ h.0)) in
          sym (ap not lacks)
      | false ↦ λ y. apart_split k es x h.1
    ]) refl

frees_one : (sh : Shape) (R : List Record) (l : LowerRecord) (x o : ℕ) → AreAllowed sh R → LowerAllowed sh R l → IsNumber o → has_extent (extents_of (Lower l ∷ R) o) x ≡ (has_extent (extents_of R o) x && not (is_in x l.released))
frees_one sh R l x o h a n =
    let s = segments sh R h in
    let named : is_in x l.released ≡ has_extent (drop l.kept (extents_of R l.obj)) x = ap (λ (xs : List ℕ). is_in x xs) a.released ∙ number_in (drop l.kept (extents_of R l.obj)) x in
    (elim (eqb l.obj o) as (λ v. eqb l.obj o ≡ v → has_extent (cond v (take l.kept (extents_of R o)) (extents_of R o)) x ≡ (has_extent (extents_of R o) x && not (is_in x l.released))) [
      | true ↦ λ y.
          let same : l.obj ≡ o = eqb-true l.obj o y in
          apart_split l.kept (extents_of R o) x (apart_extents sh R o h n)
          ∙ ap (λ v. has_extent (extents_of R o) x && not v) (sym (named ∙ ap (λ z. has_extent (drop l.kept (extents_of R z)) x) same))
      | false ↦ λ y. other (has_extent (extents_of R o) x) refl y s named
    ]) refl
  where
    other : (b : Bool) → has_extent (extents_of R o) x ≡ b → eqb l.obj o ≡ false → Segments sh R → is_in x l.released ≡ has_extent (drop l.kept (extents_of R l.obj)) x → has_extent (extents_of R o) x ≡ (has_extent (extents_of R o) x && not (is_in x l.released))
    other false e y s named = e ∙ ap (λ v. v && not (is_in x l.released)) (sym e)
    other true e y s named =
        let lacks : is_in x l.released ≡ false = off _ (λ d.
        let there : has_extent (extents_of R l.obj) x ≡ true = has_dropped l.kept (extents_of R l.obj) x (sym named ∙ d) in
        eqb-false l.obj o y (s.distinct l.obj o x (a_table sh R l.obj s a.table) n there e)) in
        e ∙ sym (ap₂ (λ v w. v && not w) e lacks)

all_or : (p q r : Bool) → ((p && r) || (q && r)) ≡ ((p || q) && r)
all_or true true true = refl
all_or true true false = refl
all_or true false true = refl
all_or true false false = refl
all_or false true true = refl
all_or false true false = refl
all_or false false true = refl
all_or false false false = refl

frees_all : (sh : Shape) (R : List Record) (l : LowerRecord) (x m : ℕ) → AreAllowed sh R → LowerAllowed sh R l → m ≤ MOST_TABLES → is_taken (Lower l ∷ R) m x ≡ (is_taken R m x && not (is_in x l.released))
frees_all sh R l x zero h a k = refl
frees_all sh R l x (suc m) h a k =
    ap₂ (λ v w. v || w) (frees_one sh R l x (suc m) h a (record { least = omega arith; most = k })) (frees_all sh R l x m h a (omega (arith, k)))
    ∙ all_or (has_extent (extents_of R (suc m)) x) (is_taken R m x) (not (is_in x l.released))

pub lowers_free_what_they_name : LowersFreeWhatTheyName
lowers_free_what_they_name sh R l x h =
    let a = h.1.kind in
    record {
      of_table = λ o one most. frees_one sh R l x o h.0 a (record { least = one; most = most });
      of_all = frees_all sh R l x MOST_TABLES h.0 a (le_refl MOST_TABLES);
      were_there = λ n. has_dropped l.kept (extents_of R l.obj) x (sym (ap (λ (xs : List ℕ). is_in x xs) a.released ∙ number_in (drop l.kept (extents_of R l.obj)) x) ∙ n);
    }

-- roles

-- an extent stands at one index
at_once : (es : List Extent) (i j : ℕ) (e f : Extent) → Apart es → extent_at es i ≡ Some e → extent_at es j ≡ Some f → e.number ≡ f.number → i ≡ j
at_once [] i j e f h x y s = absurd (let z : ◌≡◌ {A = Option Extent} None (Some e) = x in cc)
at_once (g ∷ es) zero zero e f h x y s = refl
at_once (g ∷ es) zero (suc j) e f h x y s =
    let same : g ≡ e = cc in
    absurd (true≢false (sym (found_has es j f y) ∙ ap (has_extent es) (sym (ap (λ (z : Extent). z.number) same ∙ s)) ∙ h.0))
at_once (g ∷ es) (suc i) zero e f h x y s =
    let same : g ≡ f = cc in
    absurd (true≢false (sym (found_has es i e x) ∙ ap (has_extent es) (s ∙ sym (ap (λ (z : Extent). z.number) same)) ∙ h.0))
at_once (g ∷ es) (suc i) (suc j) e f h x y s = ap (λ n. suc n) (at_once es i j e f h.1 x y s)

-- where a data block stands
pub record DataAt (sh : Shape) (i : ℕ) (es : List Extent) (b : ℕ) : Type 0 where
  pub index : ℕ
  pub extent : Extent
  pub at : extent_at es index ≡ Some extent
  pub from : first_block sh extent.number + head_blocks (i + index) ≤ b
  pub to : b < first_block sh extent.number + sh.extent

pub data_at : (sh : Shape) (i : ℕ) (es : List Extent) (b : ℕ) → is_in b (data_of sh i es) ≡ true → DataAt sh i es b
data_at sh i [] b h = absurd (true≢false (sym h))
data_at sh i (e ∷ es) b h =
    elim (in_either b (extent_data sh i e.number) (data_of sh (suc i) es) h) [
      | inl y ↦
          let r = in_range b (first_block sh e.number + head_blocks i) (sh.extent - head_blocks i) y in
          let l = r.0 in
          let u = r.1 in
          record { index = 0; extent = e; at = refl; from = subst (λ n. first_block sh e.number + head_blocks n ≤ b) (let z : i ≡ i + 0 = omega arith in z) l; to = omega (arith, l, u) }
      | inr z ↦
          let r = data_at sh (suc i) es b z in
          record { index = suc r.index; extent = r.extent; at = r.at; from = subst (λ n. first_block sh r.extent.number + head_blocks n ≤ b) (let z : suc i + r.index ≡ i + suc r.index = omega arith in z) r.from; to = r.to }
    ]

pub range_in : (c b n : ℕ) → b ≤ c → c < b + n → is_in c (blocks_from b n) ≡ true
range_in c b zero l u = absurd (omega (arith, l, u))
range_in c b (suc n) l u = elim (cases_Bool (eqb b c)) [
  | inl y ↦ or_left (eqb b c) _ y
  | inr f ↦ (let ne : b ≡ c → ⊥ = eqb-false b c f in or_right (eqb b c) _ (range_in c (suc b) n (elim (cases_order b c) [ inl e ↦ absurd (ne e) | inr w ↦ elim w [ inl x ↦ omega (arith, x) | inr x ↦ absurd (omega (arith, x, l)) ] ]) (omega (arith, u))))
]

pub at_data : (sh : Shape) (i : ℕ) (es : List Extent) (j b : ℕ) (e : Extent) → extent_at es j ≡ Some e → first_block sh e.number + head_blocks (i + j) ≤ b → b < first_block sh e.number + sh.extent → is_in b (data_of sh i es) ≡ true
at_data sh i [] j b e h l u = absurd (let x : ◌≡◌ {A = Option Extent} None (Some e) = h in cc)
at_data sh i (x ∷ es) zero b e h l u =
    let same : x ≡ e = cc in
    let k : first_block sh x.number + head_blocks i ≤ b = subst (λ (z : Extent). first_block sh z.number + head_blocks i ≤ b) (sym same) (subst (λ n. first_block sh e.number + head_blocks n ≤ b) (let z : i + 0 ≡ i = omega arith in z) l) in
    let m : b < first_block sh x.number + sh.extent = subst (λ (z : Extent). b < first_block sh z.number + sh.extent) (sym same) u in
    in_left b (extent_data sh i x.number) (data_of sh (suc i) es) (range_in b (first_block sh x.number + head_blocks i) (sh.extent - head_blocks i) k (omega (arith, k, m)))
at_data sh i (x ∷ es) (suc j) b e h l u =
    in_right b (extent_data sh i x.number) (data_of sh (suc i) es) (at_data sh (suc i) es j b e h (subst (λ n. first_block sh e.number + head_blocks n ≤ b) (let z : i + suc j ≡ suc i + j = omega arith in z) l) u)

pub head_few : (i : ℕ) → (1 ≤ head_blocks i) × (head_blocks i ≤ 4)
head_few i = elim (eqb i 0) as (λ v. (1 ≤ cond v 4 (cond (eqb i EXTENTS_OF_L2 || eqb i (2 * EXTENTS_OF_L2)) 2 1)) × (cond v 4 (cond (eqb i EXTENTS_OF_L2 || eqb i (2 * EXTENTS_OF_L2)) 2 1) ≤ 4)) [
  | true ↦ (omega arith, omega arith)
  | false ↦ elim (eqb i EXTENTS_OF_L2 || eqb i (2 * EXTENTS_OF_L2)) as (λ w. (1 ≤ cond w 2 1) × (cond w 2 1 ≤ 4)) [ true ↦ (omega arith, omega arith) | false ↦ (omega arith, omega arith) ]
]

pub group_heads : (i : ℕ) → 2 ≤ head_blocks (group_start i)
group_heads i = elim (ltb i EXTENTS_OF_L2) as (λ v. 2 ≤ head_blocks (cond v 0 (cond (ltb i (2 * EXTENTS_OF_L2)) EXTENTS_OF_L2 (2 * EXTENTS_OF_L2)))) [
  | true ↦ omega arith
  | false ↦ elim (ltb i (2 * EXTENTS_OF_L2)) as (λ w. 2 ≤ head_blocks (cond w EXTENTS_OF_L2 (2 * EXTENTS_OF_L2))) [ true ↦ omega arith | false ↦ omega arith ]
]

-- two blocks of extents that are one block are in one extent at one index
pub same_place : (sh : Shape) (R : List Record) (o p i j b : ℕ) (e f : Extent) → AreAllowed sh R → IsNumber o → IsNumber p → extent_at (extents_of R o) i ≡ Some e → extent_at (extents_of R p) j ≡ Some f
    → first_block sh e.number ≤ b → b < first_block sh e.number + sh.extent → first_block sh f.number ≤ b → b < first_block sh f.number + sh.extent → (o ≡ p) × (i ≡ j) × (e.number ≡ f.number)
same_place sh R o p i j b e f h n m x y le ue lf uf =
    let s = segments sh R h in
    let number : e.number ≡ f.number = same_extent sh e.number f.number b le ue lf uf in
    let has : has_extent (extents_of R p) e.number ≡ true = subst (λ z. has_extent (extents_of R p) z ≡ true) (sym number) (found_has (extents_of R p) j f y) in
    let table : o ≡ p = s.distinct o p e.number n m (found_has (extents_of R o) i e x) has in
    (table, at_once (extents_of R o) i j e f (apart_extents sh R o h n) x (subst (λ z. extent_at (extents_of R z) j ≡ Some f) (sym table) y) number, number)

pub each_block_has_one_role : EachBlockHasOneRole
each_block_has_one_role sh R shape h =
    let s = segments sh R h in
    let lim = limits sh shape in
    record {
      no_data = λ o p i n b x t c.
          let d = data_at sh 0 (extents_of R p) b (in_contains _ b c.0 c.1 c.2) in
          let l = d.from in
          let k = (head_few i).1 in
          let q = x.place in
          let e = x.block in
          let w = lim.extent_from in
          let z = same_place sh R o p i d.index b x.extent d.extent h (a_table sh R o s x.table) (a_table sh R p s t) x.at d.at (omega (arith, e)) (omega (arith, e, k, q, w)) (omega (arith, l)) d.to in
          let first : first_block sh x.extent.number ≡ first_block sh d.extent.number = ap (first_block sh) z.2 in
          let heads : head_blocks i ≡ head_blocks (0 + d.index) = ap head_blocks (z.1 ∙ (let y : d.index ≡ 0 + d.index = omega arith in y)) in
          omega (arith, l, q, e, first, heads);
      one = λ o p i j n m b x y.
          let k = (head_few i).1 in
          let k' = (head_few j).1 in
          let q = x.place in
          let q' = y.place in
          let e = x.block in
          let e' = y.block in
          let w = lim.extent_from in
          let z = same_place sh R o p i j b x.extent y.extent h (a_table sh R o s x.table) (a_table sh R p s y.table) x.at y.at (omega (arith, e)) (omega (arith, e, k, q, w)) (omega (arith, e')) (omega (arith, e', k', q', w)) in
          let first : first_block sh x.extent.number ≡ first_block sh y.extent.number = ap (first_block sh) z.2 in
          (z.0, z.1, (omega (arith, e, e', first)));
      each = λ o i b e t x k.
          let p = and_parts (leb (first_block sh e.number) b) (ltb b (first_block sh e.number + sh.extent)) k in
          let l = leb-true (first_block sh e.number) b p.0 in
          let u = ltb-true b (first_block sh e.number + sh.extent) p.1 in
          elim (cases_Bool (leb (first_block sh e.number + head_blocks i) b)) [
            | inl y ↦ inr (contains_in (data_blocks sh R o) b (at_data sh 0 (extents_of R o) i b e x (subst (λ n. first_block sh e.number + head_blocks n ≤ b) (let z : i ≡ 0 + i = omega arith in z) (leb-true _ _ y)) u))
            | inr f ↦ (let m = leb-false (first_block sh e.number + head_blocks i) b f in inl (b - first_block sh e.number, record { table = t; extent = e; at = x; place = omega (arith, m, l); block = omega (arith, l) }))
          ];
      within = λ o i n b x.
          let k = (head_few i).1 in
          let q = x.place in
          let e = x.block in
          let w = lim.extent_from in
          let l = leb-true (first_block sh x.extent.number + sh.extent) sh.blocks ((placed sh R o h).whole x.extent.number (found_has (extents_of R o) i x.extent x.at)) in
          (omega (arith, e), omega (arith, e, k, q, w, l));
      header = λ o e t x. record { table = t; extent = e; at = x; place = omega arith; block = ap (λ (z : Option Extent). block_in sh z 3) x };
      l3 = λ o e t x. record { table = t; extent = e; at = x; place = omega arith; block = ap (λ (z : Option Extent). block_in sh z 2) x };
      l2 = λ o i e t x. record { table = t; extent = e; at = x; place = group_heads i; block = ap (λ (z : Option Extent). block_in sh z 1) x };
      l1 = λ o i e t x. record { table = t; extent = e; at = x; place = (head_few i).0; block = omega arith };
    }
