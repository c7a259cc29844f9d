-- A block that was just formatted has the best class, so both bests are that.
use Rattle.std.proofs.Common.{◌≡◌, ℕ, zero, suc, ◌+◌, ◌-◌, ◌≤◌, true, cond, eqb, List, [], ◌∷◌, Option, Some, None, refl, sym, ◌∙◌, ap, subst, arith, inl, inr, eqb-true, true≢false, eq-eqb}
use Rattle.seg_words.proofs.Lemmas.{cond-true, cond-false, cases_Bool, or_cases, or_left, or_right}
use Rattle.seg_words.specs.Types.{Shape, first_block, head_blocks}
use Rattle.redo_model.specs.Records.{Record, FormatBlock, FormatBlockRecord}
use Rattle.redo_model.specs.Model.{Extent, extents_of, extent_data, data_blocks, high_mark, extent_at, index_of, group_start, is_formatted, code_of, good_code, best_of, best_in_extent, best_in_group, best_in_l2, best_in_l1, best_of_found, AreAllowed, under_high, first_unformatted, IsTable}
use Rattle.redo_laws.specs.Among.{is_in}
use Rattle.redo_laws.proofs.numbers.Bounds.{l1_best_bound, l2_best_bound}
use Rattle.redo_laws.proofs.space.Apart.{apart_extents}
use Rattle.redo_laws.proofs.space.Places.{in_take, segments, a_table}
use Rattle.space_laws.proofs.ExtentsLaw.{data_at, range_in}
use Rattle.space_laws.proofs.BestsLaw.{index_is}

first_in : (sh : Shape) (R : List Record) (bs : List ℕ) (d : ℕ) → first_unformatted sh R bs ≡ Some d → is_in d bs ≡ true
first_in sh R [] d e = absurd (let x : ◌≡◌ {A = Option ℕ} None (Some d) = e in cc)
first_in sh R (b ∷ bs) d e =
    elim (cases_Bool (is_formatted sh R b)) [
      | inl y ↦ or_right (eqb b d) _ (first_in sh R bs d (sym (cond-true _ _ _ y) ∙ e))
      | inr f ↦ let s : ◌≡◌ {A = Option ℕ} (Some b) (Some d) = sym (cond-false _ _ _ f) ∙ e in let same : b ≡ d = cc in or_left (eqb b d) _ (eq-eqb b d same)
    ]

best_has : (sh : Shape) (S : List Record) (bs : List ℕ) (b : ℕ) → is_in b bs ≡ true → good_code (code_of sh S b) ≡ 5 → 5 ≤ best_of sh S bs
best_has sh S [] b h e = absurd (true≢false (sym h))
best_has sh S (c ∷ bs) b h e = elim (or_cases (eqb c b) (is_in b bs) h) [
  | inl y ↦ (let k : good_code (code_of sh S c) ≡ 5 = subst (λ x. good_code (code_of sh S x) ≡ 5) (sym (eqb-true c b y)) e in omega (arith, k))
  | inr z ↦ (let k = best_has sh S bs b z e in omega (arith, k))
]

group_has : (sh : Shape) (S : List Record) (s i : ℕ) (es : List Extent) (j : ℕ) (e : Extent) → extent_at es j ≡ Some e → group_start (i + j) ≡ s → 5 ≤ best_in_extent sh S (i + j) e.number → 5 ≤ best_in_group sh S s i es
group_has sh S s i [] j e at g h = absurd (let x : ◌≡◌ {A = Option Extent} None (Some e) = at in cc)
group_has sh S s i (f ∷ es) zero e at g h =
    let plain : i + 0 ≡ i = omega arith in
    let same : f ≡ e = cc in
    let here : group_start i ≡ s = subst (λ n. group_start n ≡ s) plain g in
    let k : 5 ≤ best_in_extent sh S i f.number = subst (λ (x : Extent). 5 ≤ best_in_extent sh S i x.number) (sym same) (subst (λ n. 5 ≤ best_in_extent sh S n e.number) plain h) in
    let one : cond (eqb (group_start i) s) (best_in_extent sh S i f.number) 0 ≡ best_in_extent sh S i f.number = cond-true _ _ _ (eq-eqb (group_start i) s here) in
    omega (arith, one, k)
group_has sh S s i (f ∷ es) (suc j) e at g h =
    let moved : i + suc j ≡ suc i + j = omega arith in
    let k = group_has sh S s (suc i) es j e at (subst (λ n. group_start n ≡ s) moved g) (subst (λ n. 5 ≤ best_in_extent sh S n e.number) moved h) in
    omega (arith, k)

formatted_code : (sh : Shape) (R : List Record) (f : FormatBlockRecord) → good_code (code_of sh (FormatBlock f ∷ R) f.dba) ≡ 5
formatted_code sh R f = rw (eq-eqb f.dba f.dba refl) refl

-- where the block stands
pub record Stands (sh : Shape) (R : List Record) (o b : ℕ) : Type 0 where
  pub index : ℕ
  pub extent : Extent
  pub at : extent_at (extents_of R o) index ≡ Some extent
  pub is : index_of sh (extents_of R o) b ≡ index
  pub has : is_in b (extent_data sh index extent.number) ≡ true

pub stands : (sh : Shape) (R : List Record) (o b : ℕ) → AreAllowed sh R → IsTable R o → is_in b (data_blocks sh R o) ≡ true → Stands sh R o b
stands sh R o b h t here =
    let n = a_table sh R o (segments sh R h) t in
    let d = data_at sh 0 (extents_of R o) b here in
    let from : first_block sh d.extent.number + head_blocks d.index ≤ b = subst (λ k. first_block sh d.extent.number + head_blocks k ≤ b) (let z : 0 + d.index ≡ d.index = omega arith in z) d.from in
    let to = d.to in
    record {
      index = d.index;
      extent = d.extent;
      at = d.at;
      is = index_is sh (extents_of R o) d.index b d.extent (apart_extents sh R o h n) d.at (omega (arith, from)) to;
      has = range_in b (first_block sh d.extent.number + head_blocks d.index) (sh.extent - head_blocks d.index) from (omega (arith, from, to));
    }

pub record BothBest (sh : Shape) (R : List Record) (f : FormatBlockRecord) (index : ℕ) : Type 0 where
  pub l1 : best_in_l1 sh (FormatBlock f ∷ R) f.obj index ≡ 5
  pub l2 : best_in_l2 sh (FormatBlock f ∷ R) f.obj (group_start index) ≡ 5

both_at : (sh : Shape) (R : List Record) (f : FormatBlockRecord) (s : Stands sh R f.obj f.dba) → BothBest sh R f s.index
both_at sh R f s =
    let S : List Record = FormatBlock f ∷ R in
    let one = best_has sh S (extent_data sh s.index s.extent.number) f.dba s.has (formatted_code sh R f) in
    let plain : s.index ≡ 0 + s.index = omega arith in
    let l1 : best_in_l1 sh S f.obj s.index ≡ best_in_extent sh S s.index s.extent.number = ap (best_of_found sh S s.index) s.at in
    let most = l1_best_bound sh S f.obj s.index in
    let group = group_has sh S (group_start s.index) 0 (extents_of R f.obj) s.index s.extent s.at (ap group_start (sym plain)) (subst (λ n. 5 ≤ best_in_extent sh S n s.extent.number) plain one) in
    let most_of_group = l2_best_bound sh S f.obj (group_start s.index) in
    record { l1 = omega (arith, l1, one, most); l2 = omega (arith, group, most_of_group) }

-- both bests after the first unformatted block was formatted
pub both_best : (sh : Shape) (R : List Record) (f : FormatBlockRecord) → AreAllowed sh R → IsTable R f.obj → first_unformatted sh R (under_high sh R f.obj) ≡ Some f.dba → BothBest sh R f (index_of sh (extents_of R f.obj) f.dba)
both_best sh R f h t first =
    let here = in_take f.dba (high_mark R f.obj) (data_blocks sh R f.obj) (first_in sh R (under_high sh R f.obj) f.dba first) in
    let s = stands sh R f.obj f.dba h t here in
    subst (BothBest sh R f) (sym s.is) (both_at sh R f s)

-- where the first unformatted block stands
pub formatted_next : (sh : Shape) (R : List Record) (o b : ℕ) → AreAllowed sh R → IsTable R o → first_unformatted sh R (under_high sh R o) ≡ Some b → Stands sh R o b
formatted_next sh R o b h t first = stands sh R o b h t (in_take b (high_mark R o) (data_blocks sh R o) (first_in sh R (under_high sh R o) b first))
