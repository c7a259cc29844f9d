-- Bytes that are written over in place.
use Rattle.std.proofs.Common.{◌≡◌, inl, inr, ℕ, ◌+◌, ◌-◌, List, ◌++◌, length, take, drop, replicate, sym, ◌∙◌, ap, arith, length-append, take_all, append-nil}
use Rattle.seg_words.proofs.Lemmas.{cases_lt, take-append-le, drop-append-le, drop_all, length-replicate, take-replicate, take-append-add}
use Rattle.disk_model.specs.Types.{written}

module _ (old bytes : List ℕ) (at : ℕ) where
  zeros : List ℕ
  zeros = replicate (at + length bytes - length old) 0

  front : take at (old ++ zeros) ≡ take at old ++ replicate (at - length old) 0
  unfolding zeros
  front = elim (cases_lt (length old) at) [
    | inl lt ↦ (
        let same : at ≡ length old + (at - length old) = omega arith in
        ap (λ (n : ℕ). take n (old ++ zeros)) same
        ∙ take-append-add old zeros (at - length old)
        ∙ ap (λ (l : List ℕ). old ++ l) (take-replicate (at - length old) (at + length bytes - length old) 0 (omega arith))
        ∙ ap (λ (l : List ℕ). l ++ replicate (at - length old) 0) (sym (take_all at old (omega arith)))
        )
    | inr le ↦ (
        let none : at - length old ≡ 0 = omega arith in
        take-append-le at old zeros le ∙ sym (append-nil (take at old)) ∙ ap (λ (n : ℕ). take at old ++ replicate n 0) (sym none)
        )
  ]

  back : drop (at + length bytes) (old ++ zeros) ≡ drop (at + length bytes) old
  unfolding zeros
  back = elim (cases_lt (length old) (at + length bytes)) [
    | inl lt ↦ drop_all (at + length bytes) (old ++ zeros) (omega (arith, length-append old zeros, length-replicate {A = ℕ} (at + length bytes - length old) 0)) ∙ sym (drop_all (at + length bytes) old (omega arith))
    | inr le ↦ (
        let none : at + length bytes - length old ≡ 0 = omega arith in
        drop-append-le (at + length bytes) old zeros le ∙ ap (λ (n : ℕ). drop (at + length bytes) old ++ replicate n 0) none ∙ append-nil (drop (at + length bytes) old)
        )
  ]

  pub is_written : (new : List ℕ) → new ≡ take at (old ++ replicate (at + length bytes - length old) 0) ++ bytes ++ drop (at + length bytes) (old ++ replicate (at + length bytes - length old) 0) → new ≡ written old at bytes
  unfolding zeros
  is_written new is = is ∙ ap (λ (l : List ℕ). l ++ bytes ++ drop (at + length bytes) (old ++ zeros)) front ∙ ap (λ (l : List ℕ). take at old ++ replicate (at - length old) 0 ++ bytes ++ l) back

-- a list as long as another stands in its place
pub all_of : (n : ℕ) (new old : List ℕ) → n ≡ length new → length new ≡ length old → take n (new ++ drop (length new) old) ≡ new
all_of n new old is same =
    ap (λ (l : List ℕ). take n (new ++ l)) (drop_all (length new) old (omega arith)) ∙ ap (take n) (append-nil new) ∙ take_all n new (omega arith)
