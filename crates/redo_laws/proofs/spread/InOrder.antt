-- Rows in order of number are the rows of a view where each number has what the view has.
use Rattle.std.proofs.Common.{◌≡◌, ℕ, zero, suc, ◌<◌, ◌≤◌, true, false, cond, eqb, List, [], ◌∷◌, ◌++◌, Option, Some, None, refl, sym, ◌∙◌, ap, ap₂, subst, arith, inl, inr, le_refl, append-nil, eqb-true, eq-eqb, ne_eqb, option_to_list}
use Rattle.seg_words.proofs.Lemmas.{eqb-false, cases_Bool, cases_order, cond-true, cond-false}
use Rattle.seg_words.specs.Types.{Shape}
use Rattle.redo_model.specs.Records.{Record, Insert}
use Rattle.redo_model.specs.Model.{commit_count, row_count, view, rows_up_to, view_rows, IsTable, AreAllowed}
use Rattle.redo_laws.specs.Homes.{row_table}
use Rattle.redo_laws.specs.Scan.{numbered, IsBelow, IsInOrder}
use Rattle.redo_laws.specs.Views.{IsOpen}
use Rattle.redo_laws.proofs.spread.SpreadLaw.{view_table}
use Rattle.redo_laws.proofs.spread.Whole.{whole}

pub numbered-append : (n : ℕ) (xs ys : List (ℕ × List ℕ)) → numbered n (xs ++ ys) ≡ numbered n xs ++ numbered n ys
numbered-append n [] ys = refl
numbered-append n (x ∷ xs) ys =
    elim (eqb x.0 n) as (λ v. cond v (x.1 ∷ numbered n (xs ++ ys)) (numbered n (xs ++ ys)) ≡ cond v (x.1 ∷ numbered n xs) (numbered n xs) ++ numbered n ys) [
      | true ↦ ap (λ (zs : List (List ℕ)). x.1 ∷ zs) (numbered-append n xs ys)
      | false ↦ numbered-append n xs ys
    ]

-- what is above n has no row n
none_below : (n : ℕ) (xs : List (ℕ × List ℕ)) → IsBelow n xs → numbered n xs ≡ []
none_below n [] h = refl
none_below n (x ∷ xs) h = cond-false _ _ _ (ne_eqb x.0 n (λ e. let l = h.0 in absurd (omega (arith, l)))) ∙ none_below n xs h.1

lower_below : (m n : ℕ) (xs : List (ℕ × List ℕ)) → m < n → IsBelow n xs → IsBelow m xs
lower_below m n [] l h = tt
lower_below m n (x ∷ xs) l h = ((let k = h.0 in omega (arith, k)), lower_below m n xs l h.1)

own_number : (x : ℕ × List ℕ) (xs : List (ℕ × List ℕ)) → numbered x.0 (x ∷ xs) ≡ x.1 ∷ numbered x.0 xs
own_number x xs = cond-true _ _ _ (eq-eqb x.0 x.0 refl)

no_first : (x : ℕ × List ℕ) (xs ys : List (ℕ × List ℕ)) → IsBelow x.0 ys → numbered x.0 (x ∷ xs) ≡ numbered x.0 ys → ⊥
no_first x xs ys h e = let z : ◌≡◌ {A = List (List ℕ)} (x.1 ∷ numbered x.0 xs) [] = sym (own_number x xs) ∙ e ∙ none_below x.0 ys h in cc

-- in order, lists with the same rows of each number are the same
in_order_same : (xs ys : List (ℕ × List ℕ)) → IsInOrder xs → IsInOrder ys → ((n : ℕ) → numbered n xs ≡ numbered n ys) → xs ≡ ys
in_order_same [] [] p q h = refl
in_order_same [] (y ∷ ys) p q h = absurd (no_first y ys [] tt (sym (h y.0)))
in_order_same (x ∷ xs) [] p q h = absurd (no_first x xs [] tt (h x.0))
in_order_same (x ∷ xs) (y ∷ ys) p q h =
    elim (cases_order x.0 y.0) [
      | inr w ↦ elim w [
        | inl l ↦ absurd (no_first x xs (y ∷ ys) (l, lower_below x.0 y.0 ys l q.0) (h x.0))
        | inr g ↦ absurd (no_first y ys (x ∷ xs) (g, lower_below y.0 x.0 xs g p.0) (sym (h y.0)))
      ]
      | inl e ↦
          let below : IsBelow x.0 ys = subst (λ n. IsBelow n ys) (sym e) q.0 in
          let heads : ◌≡◌ {A = List (List ℕ)} (x.1 ∷ numbered x.0 xs) (y.1 ∷ numbered x.0 ys) = sym (own_number x xs) ∙ h x.0 ∙ cond-true _ _ _ (eq-eqb y.0 x.0 (sym e)) in
          let bytes : x.1 ≡ y.1 = cc in
          let rest : xs ≡ ys = in_order_same xs ys p.1 q.1 (λ n. rest_same x y xs ys e p.0 below n (h n)) in
          ap₂ (λ (z : ℕ × List ℕ) (zs : List (ℕ × List ℕ)). z ∷ zs) (let same : (x.0, x.1) ≡ (y.0, y.1) = ap₂ (λ (n : ℕ) (bs : List ℕ). (n, bs)) e bytes in same) rest
    ]
  where
    rest_same : (x y : ℕ × List ℕ) (xs ys : List (ℕ × List ℕ)) → x.0 ≡ y.0 → IsBelow x.0 xs → IsBelow x.0 ys → (n : ℕ) → numbered n (x ∷ xs) ≡ numbered n (y ∷ ys) → numbered n xs ≡ numbered n ys
    rest_same x y xs ys e p q n h =
        elim (cases_Bool (eqb x.0 n)) [
          | inl t ↦ let same : x.0 ≡ n = eqb-true x.0 n t in none_below n xs (subst (λ m. IsBelow m xs) same p) ∙ sym (none_below n ys (subst (λ m. IsBelow m ys) same q))
          | inr f ↦ sym (cond-false _ _ _ f) ∙ h ∙ cond-false _ _ _ (ap (λ m. eqb m n) (sym e) ∙ f)
        ]

-- the rows up to m

abbrev pub IsAbove : ℕ → List (ℕ × List ℕ) → Type 0
IsAbove n [] = Unit {0}
IsAbove n (x ∷ xs) = (x.0 < n) × IsAbove n xs

above_more : (m n : ℕ) (xs : List (ℕ × List ℕ)) → m ≤ n → IsAbove m xs → IsAbove n xs
above_more m n [] l h = tt
above_more m n (x ∷ xs) l h = ((let k = h.0 in omega (arith, k)), above_more m n xs l h.1)

above_end : (n : ℕ) (xs : List (ℕ × List ℕ)) (y : ℕ × List ℕ) → IsAbove n xs → y.0 < n → IsAbove n (xs ++ y ∷ [])
above_end n [] y h l = (l, tt)
above_end n (x ∷ xs) y h l = (h.0, above_end n xs y h.1 l)

below_end : (n : ℕ) (xs : List (ℕ × List ℕ)) (y : ℕ × List ℕ) → IsBelow n xs → n < y.0 → IsBelow n (xs ++ y ∷ [])
below_end n [] y h l = (l, tt)
below_end n (x ∷ xs) y h l = (h.0, below_end n xs y h.1 l)

order_end : (xs : List (ℕ × List ℕ)) (y : ℕ × List ℕ) → IsInOrder xs → IsAbove y.0 xs → IsInOrder (xs ++ y ∷ [])
order_end [] y h a = (tt, tt)
order_end (x ∷ xs) y h a = (below_end x.0 xs y h.0 a.0, order_end xs y h.1 a.1)

up_to_above : (m : ℕ) (f : ℕ → Option (List ℕ)) → IsAbove (suc m) (rows_up_to m f)
up_to_above zero f = tt
up_to_above (suc m) f =
    elim (f (suc m)) as (λ v. IsAbove (suc (suc m)) (elim v [ None ↦ rows_up_to m f | Some bytes ↦ rows_up_to m f ++ (suc m, bytes) ∷ [] ])) [
      | None ↦ above_more (suc m) (suc (suc m)) (rows_up_to m f) (omega arith) (up_to_above m f)
      | Some bytes ↦ above_end (suc (suc m)) (rows_up_to m f) (suc m, bytes) (above_more (suc m) (suc (suc m)) (rows_up_to m f) (omega arith) (up_to_above m f)) (omega arith)
    ]

up_to_order : (m : ℕ) (f : ℕ → Option (List ℕ)) → IsInOrder (rows_up_to m f)
up_to_order zero f = tt
up_to_order (suc m) f =
    elim (f (suc m)) as (λ v. IsInOrder (elim v [ None ↦ rows_up_to m f | Some bytes ↦ rows_up_to m f ++ (suc m, bytes) ∷ [] ])) [
      | None ↦ up_to_order m f
      | Some bytes ↦ order_end (rows_up_to m f) (suc m, bytes) (up_to_order m f) (up_to_above m f)
    ]

none_above : (n : ℕ) (xs : List (ℕ × List ℕ)) → IsAbove n xs → numbered n xs ≡ []
none_above n [] h = refl
none_above n (x ∷ xs) h = cond-false _ _ _ (ne_eqb x.0 n (λ e. let l = h.0 in absurd (omega (arith, l)))) ∙ none_above n xs h.1

-- each number has what f has, which has none past m, and none at 0
up_to_each : (m n : ℕ) (f : ℕ → Option (List ℕ)) → 1 ≤ n → n ≤ m → numbered n (rows_up_to m f) ≡ option_to_list (f n)
up_to_each zero n f l u = absurd (omega arith)
up_to_each (suc m) n f l u =
    elim (cases_Bool (eqb (suc m) n)) [
      | inl t ↦
          let same : suc m ≡ n = eqb-true (suc m) n t in
          (elim (f (suc m)) as (λ v. f (suc m) ≡ v → numbered n (elim v [ None ↦ rows_up_to m f | Some bytes ↦ rows_up_to m f ++ (suc m, bytes) ∷ [] ]) ≡ option_to_list (f n)) [
            | None ↦ λ e. none_above n (rows_up_to m f) (subst (λ k. IsAbove k (rows_up_to m f)) same (up_to_above m f)) ∙ ap option_to_list (sym e ∙ ap f same)
            | Some bytes ↦ λ e.
                numbered-append n (rows_up_to m f) ((suc m, bytes) ∷ [])
                ∙ ap₂ (λ (xs ys : List (List ℕ)). xs ++ ys) (none_above n (rows_up_to m f) (subst (λ k. IsAbove k (rows_up_to m f)) same (up_to_above m f))) (cond-true _ _ _ t)
                ∙ ap option_to_list (sym e ∙ ap f same)
          ]) refl
      | inr off ↦
          let fewer : numbered n (rows_up_to m f) ≡ option_to_list (f n) = up_to_each m n f l (less m n u (eqb-false (suc m) n off)) in
          elim (f (suc m)) as (λ v. numbered n (elim v [ None ↦ rows_up_to m f | Some bytes ↦ rows_up_to m f ++ (suc m, bytes) ∷ [] ]) ≡ option_to_list (f n)) [
            | None ↦ fewer
            | Some bytes ↦ numbered-append n (rows_up_to m f) ((suc m, bytes) ∷ []) ∙ ap₂ (λ (xs ys : List (List ℕ)). xs ++ ys) fewer (cond-false _ _ _ off) ∙ append-nil (option_to_list (f n))
          ]
    ]
  where
    less : (m n : ℕ) → n ≤ suc m → (suc m ≡ n → ⊥) → n ≤ m
    less m n u ne = elim (cases_order (suc m) n) [ inl e ↦ absurd (ne e) | inr w ↦ elim w [ inl l ↦ absurd (omega arith) | inr g ↦ omega arith ] ]

-- the rows of a view have numbers from 1 to the number of rows

no_row_0 : (sh : Shape) (R : List Record) → AreAllowed sh R → row_table R 0 ≡ 0
no_row_0 sh [] h = refl
no_row_0 sh (Insert w ∷ R) h = cond-false _ _ _ (ne_eqb w.row 0 (λ e. let n = h.1.kind.number in absurd (omega (arith, n)))) ∙ no_row_0 sh R h.0
no_row_0 sh (_ ∷ R) h = no_row_0 sh R h.0

row_numbers : (sh : Shape) (Q : List Record) (o t n : ℕ) (x : List ℕ) → AreAllowed sh Q → IsTable Q o → IsOpen Q t → view Q o (commit_count Q) t n ≡ Some x → (1 ≤ n) × (n ≤ row_count Q)
row_numbers sh Q o t n x h table open' e =
    let r = view_table sh Q o (commit_count Q) t n x (whole sh Q h) (le_refl (commit_count Q)) open' e in
    (positive n (λ z. let zero_table : 0 ≡ o = sym (no_row_0 sh Q h) ∙ ap (row_table Q) (sym z) ∙ r.0 in let l = table.least in absurd (omega (arith, l, zero_table))), r.1)
  where
    positive : (n : ℕ) → (n ≡ 0 → ⊥) → 1 ≤ n
    positive zero h = absurd (h refl)
    positive (suc n) h = omega arith

view_each : (sh : Shape) (Q : List Record) (o t n : ℕ) → AreAllowed sh Q → IsTable Q o → IsOpen Q t → numbered n (view_rows Q o (commit_count Q) t) ≡ option_to_list (view Q o (commit_count Q) t n)
view_each sh Q o t n h table open' =
    let f : ℕ → Option (List ℕ) = λ k. view Q o (commit_count Q) t k in
    (elim (view Q o (commit_count Q) t n) as (λ v. view Q o (commit_count Q) t n ≡ v → numbered n (rows_up_to (row_count Q) f) ≡ option_to_list v) [
      | None ↦ λ e. up_to_none (row_count Q) n f e
      | Some x ↦ λ e. let r = row_numbers sh Q o t n x h table open' e in up_to_each (row_count Q) n f r.0 r.1 ∙ ap option_to_list e
    ]) refl
  where
    up_to_none : (m n : ℕ) (f : ℕ → Option (List ℕ)) → f n ≡ None → numbered n (rows_up_to m f) ≡ []
    up_to_none zero n f e = refl
    up_to_none (suc m) n f e =
        (elim (f (suc m)) as (λ v. f (suc m) ≡ v → numbered n (elim v [ None ↦ rows_up_to m f | Some bytes ↦ rows_up_to m f ++ (suc m, bytes) ∷ [] ]) ≡ []) [
          | None ↦ λ g. up_to_none m n f e
          | Some bytes ↦ λ g.
              numbered-append n (rows_up_to m f) ((suc m, bytes) ∷ [])
              ∙ ap₂ (λ (xs ys : List (List ℕ)). xs ++ ys) (up_to_none m n f e)
              (cond-false _ _ _ (ne_eqb (suc m) n (λ same. let z : ◌≡◌ {A = Option (List ℕ)} None (Some bytes) = sym e ∙ ap f (sym same) ∙ g in cc)))
        ]) refl

pub ordered_view : (sh : Shape) (Q : List Record) (o t : ℕ) (rows : List (ℕ × List ℕ)) → AreAllowed sh Q → IsTable Q o → IsOpen Q t → IsInOrder rows → ((n : ℕ) → numbered n rows ≡ option_to_list (view Q o (commit_count Q) t n)) → rows ≡ view_rows Q o (commit_count Q) t
ordered_view sh Q o t rows h table open' up each =
    in_order_same rows (view_rows Q o (commit_count Q) t) up (up_to_order (row_count Q) (λ k. view Q o (commit_count Q) t k)) (λ n. each n ∙ sym (view_each sh Q o t n h table open'))
