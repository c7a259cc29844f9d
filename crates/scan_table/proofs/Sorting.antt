-- Rows of distinct numbers that were put in order of number are the same rows.
use Rattle.std.proofs.Common.{◌≡◌, ℕ, zero, suc, ◌+◌, ◌<◌, ◌≤◌, true, false, cond, eqb, List, [], ◌∷◌, length, map, get_or, refl, sym, ◌∙◌, ap, subst, arith, inl, inr, eqb-true, eq-eqb, true≢false}
use Rattle.std.specs.Prelude.{sum_by}
use Rattle.std.specs.List.Sorted.{IsNonDecreasingBy, IsPermutation}
use Rattle.std.proofs.lemmas.List.Sorted.{All-permutation, sum_by-IsPermutation}
use Rattle.std.proofs.lemmas.List.Sums.{sum_by-append}
use Rattle.seg_words.proofs.Lemmas.{All-from_recursion, cases_Bool, cond-true, eqb-false, recursion_from_All}
use Rattle.seg_words.specs.Types.{AllByRecursion}
use Rattle.redo_laws.specs.Scan.{IsBelow, IsInOrder, numbered}
use Rattle.history_text.specs.declared.outcome.RowOut.{RowOut}
use Rattle.history_model.specs.TableMeans.{row_out}
use Rattle.history_laws.specs.Scans.{Sorts}

abbrev pair_of : RowOut → ℕ × List ℕ
pair_of r = (r.row, r.bytes)

abbrev pairs : List RowOut → List (ℕ × List ℕ)
pairs [] = []
pairs (r ∷ rs) = pair_of r ∷ pairs rs

pairs_out : (rs : List RowOut) → rs ≡ map row_out (pairs rs)
pairs_out [] = refl
pairs_out (r ∷ rs) = ap (λ (xs : List RowOut). r ∷ xs) (pairs_out rs)

pairs_back : (ps : List (ℕ × List ℕ)) → pairs (map row_out ps) ≡ ps
pairs_back [] = refl
pairs_back (p ∷ ps) = ap (λ (xs : List (ℕ × List ℕ)). p ∷ xs) (pairs_back ps)

-- how many have a number

abbrev one_if : ℕ → RowOut → ℕ
one_if n r = cond (eqb r.row n) 1 0

counted : (n : ℕ) (rs : List RowOut) → sum_by (one_if n) rs ≡ length (numbered n (pairs rs))
counted n [] = refl
counted n (r ∷ rs) =
    sum_by-append (one_if n) (r ∷ []) rs
    ∙ ((elim (eqb r.row n) as (λ v. sum_by (one_if n) (r ∷ []) ≡ cond v 1 0 → sum_by (one_if n) (r ∷ []) + sum_by (one_if n) rs ≡ length (cond v (r.bytes ∷ numbered n (pairs rs)) (numbered n (pairs rs)))) [
      | true ↦ λ e. (let k = counted n rs in omega (arith, e, k))
      | false ↦ λ e. (let k = counted n rs in omega (arith, e, k))
    ]) (omega arith))

-- what those with a number have

abbrev HasBytes : ℕ → List ℕ → RowOut → Type 0
HasBytes n x r = r.row ≡ n → r.bytes ≡ x

abbrev AreAll : List ℕ → List (List ℕ) → Type 0
AreAll x [] = Unit {0}
AreAll x (y ∷ ys) = (y ≡ x) × AreAll x ys

rows_have : (n : ℕ) (x : List ℕ) (rs : List RowOut) → AreAll x (numbered n (pairs rs)) → AllByRecursion (HasBytes n x) rs
rows_have n x [] h = tt
rows_have n x (r ∷ rs) h =
    (elim (eqb r.row n) as (λ v. eqb r.row n ≡ v → AreAll x (cond v (r.bytes ∷ numbered n (pairs rs)) (numbered n (pairs rs))) → (r.row ≡ n → r.bytes ≡ x) × AllByRecursion (HasBytes n x) rs) [
      | true ↦ λ e k. ((λ _. k.0), rows_have n x rs k.1)
      | false ↦ λ e k. ((λ z. absurd (true≢false (sym (eq-eqb r.row n z) ∙ e))), rows_have n x rs k)
    ]) refl h

numbered_have : (n : ℕ) (x : List ℕ) (rs : List RowOut) → AllByRecursion (HasBytes n x) rs → AreAll x (numbered n (pairs rs))
numbered_have n x [] h = tt
numbered_have n x (r ∷ rs) h =
    (elim (eqb r.row n) as (λ v. eqb r.row n ≡ v → AreAll x (cond v (r.bytes ∷ numbered n (pairs rs)) (numbered n (pairs rs)))) [
      | true ↦ λ e. (h.0 (eqb-true r.row n e), numbered_have n x rs h.1)
      | false ↦ λ e. numbered_have n x rs h.1
    ]) refl

none_long : (ys : List (List ℕ)) → length ys ≡ 0 → ys ≡ []
none_long [] e = refl
none_long (y ∷ ys) e = absurd (omega (arith, e))

one_long : (x : List ℕ) (ys : List (List ℕ)) → length ys ≡ 1 → AreAll x ys → ys ≡ x ∷ []
one_long x [] e h = absurd (omega (arith, e))
one_long x (y ∷ []) e h = ap (λ (z : List ℕ). z ∷ []) h.0
one_long x (y ∷ z ∷ zs) e h = absurd (omega (arith, e))

same_length : (n : ℕ) (rows sorted : List RowOut) → IsPermutation rows sorted → length (numbered n (pairs sorted)) ≡ length (numbered n (pairs rows))
same_length n rows sorted p = sym (counted n sorted) ∙ (sum_by-IsPermutation (one_if n) rows sorted p ∙ counted n rows)

same_numbered : (n : ℕ) (rows sorted : List RowOut) (ys : List (List ℕ)) → IsPermutation rows sorted → numbered n (pairs rows) ≡ ys → length ys ≤ 1 → numbered n (pairs sorted) ≡ ys
same_numbered n rows sorted [] p e few = none_long (numbered n (pairs sorted)) (same_length n rows sorted p ∙ ap (λ (zs : List (List ℕ)). length zs) e)
same_numbered n rows sorted (x ∷ []) p e few =
    let all : AreAll x (numbered n (pairs rows)) = subst (AreAll x) (sym e) (refl, tt) in
    one_long x (numbered n (pairs sorted)) (same_length n rows sorted p ∙ ap (λ (zs : List (List ℕ)). length zs) e)
    (numbered_have n x sorted (recursion_from_All (HasBytes n x) sorted (All-permutation (HasBytes n x) rows sorted p (All-from_recursion (HasBytes n x) rows (rows_have n x rows all)))))
same_numbered n rows sorted (x ∷ y ∷ ys) p e few = absurd (omega (arith, few))

-- in order

below_from : (m : ℕ) (rs : List RowOut) → ((k : ℕ) (d : RowOut) → k < length rs → m ≤ (get_or rs k d).row) → length (numbered m (pairs rs)) ≡ 0 → IsBelow m (pairs rs)
below_from m [] l e = tt
below_from m (r ∷ rs) l e =
    (elim (eqb r.row m) as (λ v. eqb r.row m ≡ v → length (cond v (r.bytes ∷ numbered m (pairs rs)) (numbered m (pairs rs))) ≡ 0 → (m < r.row) × IsBelow m (pairs rs)) [
      | true ↦ λ y k. absurd (omega (arith, k))
      | false ↦ λ f k. ((let least = l 0 r (omega arith) in let other = eqb-false r.row m f in strictly m r.row least other), below_from m rs (λ j d b. l (suc j) d (omega (arith, b))) k)
    ]) refl e
  where
    strictly : (a b : ℕ) → a ≤ b → (b ≡ a → ⊥) → a < b
    strictly a b least other = elim (cases_Bool (eqb b a)) [
      | inl y ↦ absurd (other (eqb-true b a y))
      | inr f ↦ apart a b least (eqb-false b a f)
    ]
      where
        apart : (a b : ℕ) → a ≤ b → (b ≡ a → ⊥) → a < b
        apart zero zero l o = absurd (o refl)
        apart zero (suc b) l o = omega arith
        apart (suc a) zero l o = absurd (omega (arith, l))
        apart (suc a) (suc b) l o = (let k = apart a b (omega (arith, l)) (λ e. o (ap (λ n. suc n) e)) in omega (arith, k))

fewer : (n : ℕ) (r : RowOut) (rs : List RowOut) → length (numbered n (pairs (r ∷ rs))) ≤ 1 → length (numbered n (pairs rs)) ≤ 1
fewer n r rs l =
    (elim (eqb r.row n) as (λ v. length (cond v (r.bytes ∷ numbered n (pairs rs)) (numbered n (pairs rs))) ≤ 1 → length (numbered n (pairs rs)) ≤ 1) [
      | true ↦ λ k. omega (arith, k)
      | false ↦ λ k. k
    ]) l

none_more : (r : RowOut) (rs : List RowOut) → length (numbered r.row (pairs (r ∷ rs))) ≤ 1 → length (numbered r.row (pairs rs)) ≡ 0
none_more r rs l =
    let e : numbered r.row (pairs (r ∷ rs)) ≡ r.bytes ∷ numbered r.row (pairs rs) = cond-true _ _ _ (eq-eqb r.row r.row refl) in
    let k : length (r.bytes ∷ numbered r.row (pairs rs)) ≤ 1 = subst (λ (zs : List (List ℕ)). length zs ≤ 1) e l in
    omega (arith, k)

in_order : (rs : List RowOut) → IsNonDecreasingBy (λ (r : RowOut). r.row) rs → ((n : ℕ) → length (numbered n (pairs rs)) ≤ 1) → IsInOrder (pairs rs)
in_order [] u few = tt
in_order (r ∷ rs) u few = (
  below_from r.row rs (λ k d l. u 0 (suc k) d (omega arith) (omega (arith, l))) (none_more r rs (few r.row)),
  in_order rs (λ i j d l m. u (suc i) (suc j) d (omega (arith, l)) (omega (arith, m))) (λ n. fewer n r rs (few n)),
)

pub sorts : (rows sorted : List RowOut) → IsPermutation rows sorted → IsNonDecreasingBy (λ (r : RowOut). r.row) sorted → Sorts rows sorted
sorts rows sorted p u = λ found e few.
    let back : pairs rows ≡ found = ap pairs e ∙ pairs_back found in
    let same : (n : ℕ) → numbered n (pairs sorted) ≡ numbered n found = λ n. same_numbered n rows sorted (numbered n found) p (ap (numbered n) back) (few n) in
    record {
      rows = pairs sorted;
      same_rows = pairs_out sorted;
      in_order = in_order sorted u (λ n. subst (λ (zs : List (List ℕ)). length zs ≤ 1) (sym (same n)) (few n));
      same = same;
    }
