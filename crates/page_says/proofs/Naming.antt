-- Lists of tables by name: one more entry behind those that are there.
use Rattle.std.proofs.Common.{◌≡◌, ℕ, zero, suc, ◌+◌, ◌<◌, Bool, true, false, cond, not, ◌&&◌, eqb, ltb, List, [], ◌∷◌, length, get_or, set, Option, Some, None, refl, sym, ap, ap₂, ◌∙◌, inl, inr, arith}
use Rattle.std.specs.Prelude.{position, count_by, bytes_eq, nat_lt}
use Rattle.std.specs.List.{position_or_len}
use Rattle.std.proofs.lemmas.Bool.{cases_Bool, cond-true, cond-false, lt-ltb, ltb-false}
use Rattle.std.proofs.lemmas.List.{length-set}
use Rattle.std.proofs.lemmas.List.Folds.{position_or_len-set}
use Rattle.std.proofs.lemmas.List.Sums.{sum_by-set, prefix_len-le-length}
use Rattle.segment_blocks.specs.declared.entry.CatalogueEntry.{CatalogueEntry}
use Rattle.segment_blocks.specs.Types.{no_table, header_of}
use Rattle.segment_blocks.specs.Catalogues.{header_of_table}
use Rattle.redo_model.specs.Model.{is_byte_list}

module _ {X : Type 0} (p : X → Bool) where
  not_found : (xs : List X) → position p xs ≡ None → position_or_len p xs ≡ length xs
  not_found xs h = elim (cases_Bool (ltb (position_or_len p xs) (length xs))) [
    | inl y ↦ absurd (let z : ◌≡◌ {A = Option ℕ} (Some (position_or_len p xs)) None = sym (cond-true _ _ _ y) ∙ h in cc)
    | inr n ↦ (let l = prefix_len-le-length (λ x. not (p x)) xs in let m = ltb-false (position_or_len p xs) (length xs) n in omega (arith, l, m))
  ]

  first_there : (xs : List X) (n : ℕ) (y : X) → n < length xs → position_or_len p xs ≡ length xs → p y ≡ true → position_or_len p (set xs n y) ≡ n
  first_there [] n y l h t = absurd (omega (arith, l))
  first_there (x ∷ xs) zero y l h t = ap (λ (b : Bool). cond (not b) (1 + position_or_len p xs) 0) t
  first_there (x ∷ xs) (suc n) y l h t = elim (cases_Bool (p x)) [
    | inl e ↦ absurd (let z : 0 ≡ suc (length xs) = sym (ap (λ (b : Bool). cond (not b) (1 + position_or_len p xs) 0) e) ∙ h in omega (arith, z))
    | inr f ↦
        let k : 1 + position_or_len p xs ≡ suc (length xs) = sym (ap (λ (b : Bool). cond (not b) (1 + position_or_len p xs) 0) f) ∙ h in
        let rest = first_there xs n y (omega (arith, l)) (omega (arith, k)) t in
        ap (λ (b : Bool). cond (not b) (1 + position_or_len p (set xs n y)) 0) f ∙ omega (arith, rest)
  ]

  -- the only one that passes is found
  pub position_new : (xs : List X) (n : ℕ) (y : X) → n < length xs → position p xs ≡ None → p y ≡ true → position p (set xs n y) ≡ Some n
  position_new xs n y l h t =
      let at = first_there xs n y l (not_found xs h) t in
      let long = length-set xs n y in
      cond-true _ _ _ (lt-ltb (position_or_len p (set xs n y)) (length (set xs n y)) (omega (arith, at, long, l))) ∙ ap (λ (k : ℕ). Some k) at

  -- one that doesn't pass, in the place of one that doesn't
  pub position_same : (xs : List X) (n : ℕ) (y d : X) → p y ≡ false → p (get_or xs n d) ≡ false → position p (set xs n y) ≡ position p xs
  position_same xs n y d f g =
      ap₂ (λ (k m : ℕ). cond (nat_lt k m) (Some k) None) (position_or_len-set p xs n y d (f ∙ sym g)) (length-set xs n y)

  pub count_new : (xs : List X) (n : ℕ) (y d : X) → n < length xs → p y ≡ true → p (get_or xs n d) ≡ false → count_by p (set xs n y) ≡ suc (count_by p xs)
  count_new xs n y d l t f =
      let h = sum_by-set (λ x. cond (p x) 1 0) xs n y d l in
      let a : ◌≡◌ {A = ℕ} (cond (p y) 1 0) 1 = cond-true _ _ _ t in
      let b : ◌≡◌ {A = ℕ} (cond (p (get_or xs n d)) 1 0) 0 = cond-false _ _ _ f in
      omega (arith, h, a, b)

-- both crates compare names so
pub same_bytes : (xs ys : List ℕ) → bytes_eq xs ys ≡ is_byte_list xs ys
same_bytes [] [] = refl
same_bytes [] (y ∷ ys) = refl
same_bytes (x ∷ xs) [] = refl
same_bytes (x ∷ xs) (y ∷ ys) = ap (λ (b : Bool). eqb x y && b) (same_bytes xs ys)

-- the header of a table is in its entry
pub header_in : (es : List CatalogueEntry) (i : ℕ) → header_of es (suc i) ≡ header_of_table (get_or es i no_table).table
header_in [] i = refl
header_in (e ∷ es) zero = refl
header_in (e ∷ es) (suc i) = header_in es i
