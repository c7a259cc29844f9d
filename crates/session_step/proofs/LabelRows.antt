-- Keys that are vectors, with their rows, seen as their bytes.
use Rattle.std.proofs.Common.{◌≡◌, ℕ, Vec, true, false, map, cond, eqb, List, [], ◌∷◌, Option, Some, refl, sym, ap, ap₂, subst, ◌∙◌, inl, inr, true≢false, eqb-true, eq-eqb, bytes_eq}
use Rattle.std.specs.Map.{lookup}
use Rattle.seg_words.proofs.Lemmas.{cond-true, cond-false, cases_Bool, and_parts, and_from}
use Rattle.redo_model.specs.Model.{is_byte_list}
use Rattle.page_says.proofs.Naming.{same_bytes}
use Rattle.indexmap.specs.IndexMap.{insert_entry}
use Rattle.session_step.specs.Bindings.{row_of}

-- ---- bytes

list_is : (xs ys : List ℕ) → is_byte_list xs ys ≡ true → xs ≡ ys
list_is [] [] h = refl
list_is [] (y ∷ ys) h = absurd (true≢false (sym h))
list_is (x ∷ xs) [] h = absurd (true≢false (sym h))
list_is (x ∷ xs) (y ∷ ys) h = let q = and_parts (eqb x y) (is_byte_list xs ys) h in ap₂ (λ z (zs : List ℕ). z ∷ zs) (eqb-true x y q.0) (list_is xs ys q.1)

list_self : (xs : List ℕ) → is_byte_list xs xs ≡ true
list_self [] = refl
list_self (x ∷ xs) = and_from (eqb x x) (is_byte_list xs xs) (eq-eqb x x refl) (list_self xs)

-- a label is another one or not, whichever is asked
turned : (xs ys : List ℕ) → is_byte_list xs ys ≡ is_byte_list ys xs
turned xs ys = elim (cases_Bool (is_byte_list xs ys)) [
  | inl y ↦ y ∙ sym (subst (λ (z : List ℕ). is_byte_list z xs ≡ true) (list_is xs ys y) (list_self xs))
  | inr n ↦ (elim (cases_Bool (is_byte_list ys xs)) [
    | inl z ↦ absurd (true≢false (sym (subst (λ (u : List ℕ). is_byte_list u ys ≡ true) (list_is ys xs z) (list_self ys)) ∙ n))
    | inr m ↦ n ∙ sym m
  ])
]

-- ---- the entries as labels with their rows

abbrev pub seen : {A : Type 0} → List (Vec ℕ A × ℕ) → List (List ℕ × ℕ)
seen es = map (λ e. (e.0.items, e.1)) es

pub row_found : {A : Type 0} → (es : List (Vec ℕ A × ℕ)) (l : List ℕ) → lookup (λ k. bytes_eq l k.items) es ≡ row_of (seen es) l
row_found [] l = refl
row_found (e ∷ es) l = ap₂ (λ b (o : Option ℕ). cond b (Some e.1) o) (same_bytes l e.0.items ∙ turned l e.0.items) (row_found es l)

-- it is found among the entries after the one that it stands for
bound_there : (k j : List ℕ) (row was : ℕ) (l : List ℕ) (o : Option ℕ) → is_byte_list k j ≡ true → cond (is_byte_list j l) (Some row) o ≡ cond (is_byte_list k l) (Some row) (cond (is_byte_list j l) (Some was) o)
bound_there k j row was l o y = subst (λ (z : List ℕ). cond (is_byte_list z l) (Some row) o ≡ cond (is_byte_list k l) (Some row) (cond (is_byte_list z l) (Some was) o)) (list_is k j y)
    (elim (is_byte_list k l) as (λ b. cond b (Some row) o ≡ cond b (Some row) (cond b (Some was) o)) [
      | true ↦ refl
      | false ↦ refl
    ])

bound_apart : (k j : List ℕ) (row was : ℕ) (l : List ℕ) (o p : Option ℕ) → is_byte_list k j ≡ false → p ≡ cond (is_byte_list k l) (Some row) o → cond (is_byte_list j l) (Some was) p ≡ cond (is_byte_list k l) (Some row) (cond (is_byte_list j l) (Some was) o)
bound_apart k j row was l o p n e = elim (cases_Bool (is_byte_list j l)) [
  | inl y ↦ cond-true _ _ _ y ∙ sym (cond-false _ _ _ (subst (λ (z : List ℕ). is_byte_list k z ≡ false) (list_is j l y) n) ∙ cond-true _ _ _ y)
  | inr m ↦ cond-false _ _ _ m ∙ (e ∙ ap (λ (q : Option ℕ). cond (is_byte_list k l) (Some row) q) (sym (cond-false _ _ _ m)))
]

pub row_inserted : {A : Type 0} → (es : List (Vec ℕ A × ℕ)) (k : Vec ℕ A) (row : ℕ) (l : List ℕ) → row_of (seen (insert_entry (λ a b. bytes_eq a.items b.items) es k row)) l ≡ cond (is_byte_list k.items l) (Some row) (row_of (seen es) l)
row_inserted [] k row l = refl
row_inserted (e ∷ es) k row l = elim (cases_Bool (bytes_eq k.items e.0.items)) [
  | inl y ↦ ap (λ b. row_of (seen (cond b ((e.0, row) ∷ es) (e ∷ insert_entry (λ a b. bytes_eq a.items b.items) es k row))) l) y
      ∙ bound_there k.items e.0.items row e.1 l (row_of (seen es) l) (sym (same_bytes k.items e.0.items) ∙ y)
  | inr n ↦ ap (λ b. row_of (seen (cond b ((e.0, row) ∷ es) (e ∷ insert_entry (λ a b. bytes_eq a.items b.items) es k row))) l) n
      ∙ bound_apart k.items e.0.items row e.1 l (row_of (seen es) l) (row_of (seen (insert_entry (λ a b. bytes_eq a.items b.items) es k row)) l) (sym (same_bytes k.items e.0.items) ∙ n) (row_inserted es k row l)
]
