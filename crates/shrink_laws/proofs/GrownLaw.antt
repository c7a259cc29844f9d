-- The data blocks of a table grow until it is lowered.
use Rattle.std.proofs.Common.{◌≡◌, ℕ, zero, suc, ◌+◌, ◌<◌, true, false, eqb, List, [], ◌∷◌, ◌++◌, length, Some, refl, sym, ◌∙◌, ap, arith, inl, inr, slice_get, true≢false}
use Rattle.seg_words.specs.Types.{position_or_len, Shape}
use Rattle.seg_words.proofs.Lemmas.{cond-true, cond-false, cases_Bool, or_cases}
use Rattle.redo_model.specs.Records.{Record, Extend, Lower}
use Rattle.redo_model.specs.Model.{extents_of, data_of, data_blocks}
use Rattle.redo_laws.specs.Among.{is_in}
use Rattle.redo_laws.proofs.space.ApartLaw.{is_listed}
use Rattle.redo_laws.proofs.space.LowMark.{data_of-append}
use Rattle.redo_laws.proofs.lists.Since.{each_since}
use Rattle.shrink_laws.specs.Grown.{lowers, DataBlocksGrow}

pub append_more : (xs ys zs : List ℕ) → (xs ++ ys) ++ zs ≡ xs ++ (ys ++ zs)
append_more [] ys zs = refl
append_more (x ∷ xs) ys zs = ap (λ (ws : List ℕ). x ∷ ws) (append_more xs ys zs)

pub append_none : (xs : List ℕ) → xs ++ [] ≡ xs
append_none [] = refl
append_none (x ∷ xs) = ap (λ (ws : List ℕ). x ∷ ws) (append_none xs)

pub get_front : (xs ys : List ℕ) (i : ℕ) → i < length xs → slice_get (xs ++ ys) i ≡ slice_get xs i
get_front [] ys i l = absurd (omega arith)
get_front (x ∷ xs) ys zero l = refl
get_front (x ∷ xs) ys (suc i) l = get_front xs ys i (omega (arith, l))

got_below : (xs : List ℕ) (i b : ℕ) → slice_get xs i ≡ Some b → i < length xs
got_below [] i b e = absurd cc
got_below (x ∷ xs) zero b e = omega arith
got_below (x ∷ xs) (suc i) b e = let l = got_below xs i b e in omega (arith, l)

position_front : (xs ys : List ℕ) (b : ℕ) → is_in b xs ≡ true → position_or_len (λ c. eqb c b) (xs ++ ys) ≡ position_or_len (λ c. eqb c b) xs
position_front [] ys b h = absurd (true≢false (sym h))
position_front (x ∷ xs) ys b h = elim (cases_Bool (eqb x b)) [
  | inl y ↦ simp y refl
  | inr n ↦ simp n (ap (λ m. 1 + m) (position_front xs ys b (elim (or_cases (eqb x b) (is_in b xs) h) [ inl y ↦ absurd (true≢false (sym y ∙ n)) | inr z ↦ z ])))
]

-- after one record that doesn't lower it
pub record Grown (sh : Shape) (R : List Record) (r : Record) (o : ℕ) : Type 0 where
  pub far : List ℕ
  pub is : data_blocks sh (r ∷ R) o ≡ data_blocks sh R o ++ far

still_there : (sh : Shape) (R : List Record) (r : Record) (o : ℕ) → data_blocks sh (r ∷ R) o ≡ data_blocks sh R o → Grown sh R r o
still_there sh R r o e = record { far = []; is = e ∙ sym (append_none (data_blocks sh R o)) }

pub blocks_grow : (sh : Shape) (R : List Record) (r : Record) (o : ℕ) → lowers o r ≡ false → Grown sh R r o
blocks_grow sh R (Lower l) o k = still_there sh R (Lower l) o (ap (data_of sh 0) (cond-false _ _ _ k))
blocks_grow sh R (Extend e) o k =
    (elim (eqb e.obj o) as (λ v. eqb e.obj o ≡ v → Grown sh R (Extend e) o) [
      | true ↦ λ y. record { far = data_of sh (0 + length (extents_of R o)) (record { number = e.extent; incarnation = suc (length R) } ∷ []); is = ap (data_of sh 0) (cond-true _ _ _ y) ∙ data_of-append sh 0 (extents_of R o) (record { number = e.extent; incarnation = suc (length R) } ∷ []) }
      | false ↦ λ y. still_there sh R (Extend e) o (ap (data_of sh 0) (cond-false _ _ _ y))
    ]) refl
blocks_grow sh R r o k = still_there sh R r o refl

-- after more

abbrev Far : Shape → List Record → ℕ → List Record → Type 0
Far sh Q o S = (far : List ℕ) × (data_blocks sh S o ≡ data_blocks sh Q o ++ far)

far_more : (sh : Shape) (Q S : List Record) (r : Record) (o : ℕ) → lowers o r ≡ false → Far sh Q o S → Far sh Q o (r ∷ S)
far_more sh Q S r o n h = let g = blocks_grow sh S r o n in (h.0 ++ g.far, g.is ∙ ap (λ (z : List ℕ). z ++ g.far) h.1 ∙ append_more (data_blocks sh Q o) h.0 g.far)

pub data_blocks_grow : DataBlocksGrow
data_blocks_grow sh Q R o x n =
    let f = each_since (lowers o) (Far sh Q o) Q R x n ([], sym (append_none (data_blocks sh Q o))) (λ S r y z m h. far_more sh Q S r o m h) in
    record {
      far = f.0;
      grown = f.1;
      at = λ i b e. ap (λ (z : List ℕ). slice_get z i) f.1 ∙ get_front (data_blocks sh Q o) f.0 i (got_below (data_blocks sh Q o) i b e) ∙ e;
      position = λ b c. ap (position_or_len (λ d. eqb d b)) f.1 ∙ position_front (data_blocks sh Q o) f.0 b (is_listed (data_blocks sh Q o) b c);
    }
