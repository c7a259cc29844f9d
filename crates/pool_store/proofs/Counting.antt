-- How many commits there are.
use Rattle.std.proofs.Common.{◌≡◌, ℕ, suc, ◌+◌, ◌^◌, ◌<◌, ◌≤◌, Bool, true, false, cond, List, [], ◌∷◌, length, get_or, take, reverse, refl, sym, ap, ◌∙◌, arith}
use Rattle.std.proofs.lemmas.List.{length-take, take_all}
use Rattle.seg_words.proofs.Lemmas.{take_more, length-reverse, reverse-append}
use Rattle.redo_model.specs.Records.{Record}
use Rattle.redo_model.specs.Model.{is_commit, commit_count}

counted_more : (b : Bool) (n m : ℕ) → n ≤ m → cond b (suc n) n ≤ suc m
counted_more true n m h = omega (arith, h)
counted_more false n m h = omega (arith, h)

pub within : (R : List Record) → commit_count R ≤ length R
within [] = omega arith
within (r ∷ R) = counted_more (is_commit r) (commit_count R) (length R) (within R)

-- of the first i records of some
pub record Counted (xs : List Record) (i n : ℕ) : Type 0 where
  pub is : n ≡ commit_count (reverse (take i xs))

pub none_counted : (xs : List Record) → Counted xs 0 0
none_counted xs = record { is = refl }

pub newest : (xs : List Record) (i : ℕ) (r : Record) → r ≡ get_or xs i r → i < length xs → reverse (take (i + 1) xs) ≡ r ∷ reverse (take i xs)
newest xs i r e lt = ap reverse (take_more xs i r lt) ∙ reverse-append (take i xs) (get_or xs i r ∷ []) ∙ ap (λ (x : Record). x ∷ reverse (take i xs)) (sym e)

pub one_counted : (xs : List Record) (i : ℕ) (r : Record) (old new : ℕ) → Counted xs i old → r ≡ get_or xs i r → i < length xs → i < 2 ^ 63
    → ((R : List Record) → old ≡ commit_count R → suc (length R) < 2 ^ 64 → new ≡ commit_count (r ∷ R)) → Counted xs (i + 1) new
one_counted xs i r old new h e lt small goes = record {
  is = goes (reverse (take i xs)) h.is (omega (arith, length-reverse (take i xs), length-take i xs, lt, small)) ∙ ap commit_count (sym (newest xs i r e lt));
}

pub all_counted : (xs : List Record) (i n : ℕ) → Counted xs i n → length xs ≤ i → n ≡ commit_count (reverse xs)
all_counted xs i n h le = h.is ∙ ap (λ (l : List Record). commit_count (reverse l)) (take_all i xs le)
