-- What a whole block gives stays.
use Rattle.std.proofs.Common.{◌≡◌, ℕ, zero, suc, ◌≤◌, ◌<◌, List, [], ◌∷◌, ◌++◌, Option, Some, None, refl, sym, ◌∙◌, ap, ap₂, arith, inl, inr}
use Rattle.seg_words.proofs.Lemmas.{cases_order}
use Rattle.redo_model.specs.Records.{Record}
use Rattle.redo_model.specs.Model.{slot_count, found_below, row_at}
use Rattle.redo_laws.proofs.spread.SpreadLaw.{slot_there}
use Rattle.redo_laws.proofs.spread.StaysLaw.{blocks_stay}
use Rattle.scan_laws.specs.RowsStay.{RowsOfBlocksStay}

found_same : {A : Type 0} (f g : ℕ → Option A) (n : ℕ) → ((k : ℕ) → f k ≡ g k) → found_below f n ≡ found_below g n
found_same f g zero h = refl
found_same {A} f g (suc n) h =
    ap₂ (λ (v : Option A) (xs : List A). elim v as (λ _. List A) [ None ↦ xs | Some x ↦ xs ++ x ∷ [] ]) (h n) (found_same f g n h)

-- numbers at which nothing is found add nothing
found_more : {A : Type 0} (f : ℕ → Option A) (m n : ℕ) → m ≤ n → ((k : ℕ) → m ≤ k → f k ≡ None) → found_below f n ≡ found_below f m
found_more f m zero l h = ap (found_below f) (let e : 0 ≡ m = omega (arith, l) in e)
found_more {A} f m (suc n) l h =
    elim (cases_order m (suc n)) [
      | inl e ↦ ap (found_below f) (sym e)
      | inr w ↦
          let k : m ≤ n = elim w [ inl x ↦ omega (arith, x) | inr x ↦ absurd (omega (arith, x, l)) ] in
          ap (λ (v : Option A). elim v as (λ _. List A) [ None ↦ found_below f n | Some x ↦ found_below f n ++ x ∷ [] ]) (h n k) ∙ found_more f m n k h
    ]

nothing_past : (R : List Record) (b s t k : ℕ) → slot_count R b ≤ k → row_at R b k s t ≡ None
nothing_past R b s t k l =
    (elim (row_at R b k s t) as (λ v. row_at R b k s t ≡ v → row_at R b k s t ≡ None) [
      | None ↦ λ e. e
      | Some p ↦ λ e. let there : k < slot_count R b = slot_there R b k s t p.0 p.1 e in absurd (omega arith)
    ]) refl

found_both : {A : Type 0} (f : ℕ → Option A) (m n : ℕ) → ((k : ℕ) → m ≤ k → f k ≡ None) → ((k : ℕ) → n ≤ k → f k ≡ None) → found_below f m ≡ found_below f n
found_both f m n h g =
    elim (cases_order m n) [
      | inl e ↦ ap (found_below f) e
      | inr w ↦ elim w [
        | inl l ↦ sym (found_more f m n (omega (arith, l)) h)
        | inr l ↦ found_more f n m (omega (arith, l)) g
      ]
    ]

pub rows_of_blocks_stay : RowsOfBlocksStay
rows_of_blocks_stay sh Q R b s t h l later =
    let same : (k : ℕ) → row_at R b k s t ≡ row_at Q b k s t = λ k. blocks_stay sh Q R b k s t h l later in
    found_same (λ k. row_at R b k s t) (λ k. row_at Q b k s t) (slot_count R b) same
    ∙ found_both (λ k. row_at Q b k s t) (slot_count R b) (slot_count Q b) (λ k m. sym (same k) ∙ nothing_past R b s t k m) (nothing_past Q b s t)
