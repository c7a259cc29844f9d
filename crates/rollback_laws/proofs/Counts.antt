-- How many transactions are active, and how many records one has.
use Rattle.std.proofs.Common.{◌≡◌, ℕ, zero, suc, ◌<◌, ◌≤◌, Bool, true, false, cond, not, eqb, List, [], ◌∷◌, length, filter, refl, sym, ◌∙◌, ap, subst, arith, inl, inr, le_trans, eqb-true}
use Rattle.seg_words.proofs.Lemmas.{cond-true, cond-false, cases_Bool, eqb-false}
use Rattle.redo_model.specs.Records.{Record}
use Rattle.redo_model.specs.Model.{Step, Effect, effect_of, is_addr, standing_steps, standing}
use Rattle.redo_model.specs.Effects.{Still, Formats, Adds, TakesBack, Cleans}
use Rattle.open_laws.specs.Begins.{count_below}

-- the same at each of the numbers
same_count : (p q : ℕ → Bool) (n : ℕ) → ((u : ℕ) → u < n → q u ≡ p u) → count_below q n ≡ count_below p n
same_count p q zero h = refl
same_count p q (suc n) h = (ap (λ v. cond v (suc (count_below q n)) (count_below q n)) (h n (omega arith))) ∙ (ap (λ k. cond (p n) (suc k) k) (same_count p q n (λ u l. h u (omega (arith, l)))))

-- one fewer
pub one_less : (p q : ℕ → Bool) (t n : ℕ) → t < n → p t ≡ true → q t ≡ false → ((u : ℕ) → (u ≡ t → ⊥) → q u ≡ p u) → suc (count_below q n) ≡ count_below p n
one_less p q t zero l on off h = absurd (omega (arith, l))
one_less p q t (suc n) l on off h = elim (cases_Bool (eqb t n)) [
  | inl y ↦
      let same : t ≡ n = eqb-true t n y in
      let was : p n ≡ true = subst (λ z. p z ≡ true) same on in
      let now : q n ≡ false = subst (λ z. q z ≡ false) same off in
      ap (λ k. suc k) (cond-false _ _ _ now ∙ same_count p q n (λ u k. h u (apart u n k same))) ∙ sym (cond-true _ _ _ was)
  | inr f ↦
      let other : (n ≡ t → ⊥) = λ e. eqb-false t n f (sym e) in
      let less : suc (count_below q n) ≡ count_below p n = one_less p q t n (before n l (eqb-false t n f)) on off h in
      ap (λ v. suc (cond v (suc (count_below q n)) (count_below q n))) (h n other) ∙ next (p n) (count_below q n) (count_below p n) less
]
  where
    apart : (u n : ℕ) → u < n → t ≡ n → u ≡ t → ⊥
    apart u n k same e = omega (arith, k, same, e)

    before : (n : ℕ) → t < suc n → (t ≡ n → ⊥) → t < n
    before n l k = omega (arith, l, k)

    next : (v : Bool) (a b : ℕ) → suc a ≡ b → suc (cond v (suc a) a) ≡ cond v (suc b) b
    next true a b e = ap (λ k. suc k) e
    next false a b e = e

-- where the count is 0 there is none
pub none_counted : (p : ℕ → Bool) (n : ℕ) → count_below p n ≡ 0 → (u : ℕ) → u < n → p u ≡ false
none_counted p zero e u l = absurd (omega (arith, l))
none_counted p (suc n) e u l = elim (cases_Bool (p n)) [
  | inl y ↦ absurd (let c : suc (count_below p n) ≡ 0 = sym (cond-true _ _ _ y) ∙ e in omega (arith, c))
  | inr f ↦ elim (cases_Bool (eqb u n)) [
    | inl y ↦ subst (λ z. p z ≡ false) (sym (eqb-true u n y)) f
    | inr g ↦ none_counted p n (sym (cond-false _ _ _ f) ∙ e) u (before u n l (eqb-false u n g))
  ]
]
  where
    before : (u n : ℕ) → u < suc n → (u ≡ n → ⊥) → u < n
    before u n l k = omega (arith, l, k)

-- ---- records

few_filtered : (f : Step → Bool) (ss : List Step) → length (filter f ss) ≤ length ss
few_filtered f [] = omega arith
few_filtered f (s ∷ ss) =
    (elim (f s) as (λ v. length (cond v (s ∷ filter f ss) (filter f ss)) ≤ suc (length ss)) [
      | true ↦ let l = few_filtered f ss in omega (arith, l)
      | false ↦ let l = few_filtered f ss in omega (arith, l)
    ])

few_standing : (R : List Record) → length (standing R) ≤ length R
few_standing [] = omega arith
few_standing (r ∷ R) = later (effect_of r) (few_standing R)
  where
    later : (ef : Effect) → length (standing R) ≤ length R → length (standing_steps ef (standing R)) ≤ suc (length R)
    later Still l = omega (arith, l)
    later (Formats d) l = omega (arith, l)
    later (Adds st) l = omega (arith, l)
    later (TakesBack k) l = let f = few_filtered (λ (st : Step). not (is_addr st.undo k.undo)) (standing R) in le_trans f (omega (arith, l))
    later (Cleans d cs) l = omega (arith, l)

pub few_own : (f : Step → Bool) (R : List Record) → length (filter f (standing R)) ≤ length R
few_own f R = le_trans (few_filtered f (standing R)) (few_standing R)
