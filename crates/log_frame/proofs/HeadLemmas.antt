-- A head as it is read.
use Rattle.std.proofs.Common.{◌≡◌, ℕ, ◌-◌, ◌≤◌, min, true, List, [], ◌++◌, length, take, drop, get_or, sym, ◌∙◌, ap, arith, get_or-take, append-nil}
use Rattle.seg_words.specs.Types.{LOG_HEAD_SIZE}
use Rattle.seg_words.proofs.Lemmas.{drop_all, nat_tests}
use Rattle.log_frame.specs.Types.{is_formatted}

module _ (bytes buf zeros : List ℕ) (count : ℕ) (counted : count ≡ min LOG_HEAD_SIZE (length bytes - 0)) (read : buf ≡ take count (drop 0 bytes) ++ drop count zeros) (size : length zeros ≡ LOG_HEAD_SIZE) (whole : LOG_HEAD_SIZE ≤ count) where
  all : count ≡ LOG_HEAD_SIZE
  all = omega (arith, counted, whole)

  pub front_is : buf ≡ take LOG_HEAD_SIZE bytes
  front_is = read ∙ ap (λ (n : ℕ). take n bytes ++ drop n zeros) all ∙ ap (λ (l : List ℕ). take LOG_HEAD_SIZE bytes ++ l) none ∙ append-nil (take LOG_HEAD_SIZE bytes)
    where
      none : drop LOG_HEAD_SIZE zeros ≡ []
      none = drop_all LOG_HEAD_SIZE zeros (omega (arith, size))

  pub formatted : get_or buf 0 0 ≡ 1 → is_formatted bytes ≡ true
  formatted open_gate =
      let first : get_or bytes 0 0 ≡ 1 = sym (get_or-take LOG_HEAD_SIZE bytes 0 0 (omega arith)) ∙ ap (λ (l : List ℕ). get_or l 0 0) (sym front_is) ∙ open_gate in
      let long : LOG_HEAD_SIZE ≤ length bytes = omega (arith, counted, whole) in
      grind (arith, nat_tests)
