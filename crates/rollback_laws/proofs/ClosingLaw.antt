-- What an opening makes of a lawful list.
use Rattle.std.proofs.Common.{◌≡◌, ℕ, zero, suc, ◌<◌, ◌≤◌, true, false, not, ◌&&◌, eqb, ltb, List, refl, sym, ◌∙◌, ap, subst, arith, inl, inr, eqb-true, ltb-true, ltb-false}
use Rattle.seg_words.proofs.Lemmas.{cond-true, cond-false, cases_Bool, eqb-false}
use Rattle.seg_words.specs.Types.{Shape}
use Rattle.redo_model.specs.Records.{Record}
use Rattle.redo_model.specs.Model.{txn_count, is_active, IsLawful}
use Rattle.rollback_laws.specs.Closing.{rolled_back, closed_below, closed, AddsEnds, adds_none, ListsClose, AheadIsCounted}
use Rattle.rollback_laws.proofs.Counts.{none_counted, few_own}
use Rattle.rollback_laws.proofs.Rolling.{adds_more, adds_extend, adds_same, rolled_active, rolled_adds, rolled_lawful}
use Rattle.rollback_laws.proofs.StepsLaw.{and_off, has_begun_by, own_ended, others_stay}

-- after those below n
record Below (sh : Shape) (R : List Record) (n : ℕ) (Q : List Record) : Type 0 where
  lawful : IsLawful sh Q
  gone : (u : ℕ) → u < n → is_active Q u ≡ false
  stays : (u : ℕ) → n ≤ u → is_active Q u ≡ is_active R u
  only : AddsEnds R Q

rolled_below : (sh : Shape) (R : List Record) (n : ℕ) (Q : List Record) → is_active R n ≡ true → Below sh R n Q → Below sh R (suc n) (rolled_back Q n)
rolled_below sh R n Q on h = record {
  lawful = rolled_lawful sh Q n h.lawful (h.stays n (omega arith) ∙ on);
  gone = λ u l. elim (cases_Bool (eqb u n)) [
    | inl y ↦ subst (λ z. is_active (rolled_back Q n) z ≡ false) (sym (eqb-true u n y)) (own_ended Q n)
    | inr f ↦ rolled_active Q n u ∙ ap (λ v. not (eqb n u) && v) (h.gone u (before u n l (eqb-false u n f))) ∙ and_off (not (eqb n u))
  ];
  stays = λ u l. others_stay Q n u (above n u l) ∙ h.stays u (omega (arith, l));
  only = adds_more R Q (rolled_back Q n) h.only (rolled_adds Q n);
}
  where
    before : (u n : ℕ) → u < suc n → (u ≡ n → ⊥) → u < n
    before u n l k = omega (arith, l, k)

    above : (n u : ℕ) → suc n ≤ u → u ≡ n → ⊥
    above n u l e = omega (arith, l, e)

left_below : (sh : Shape) (R : List Record) (n : ℕ) (Q : List Record) → is_active R n ≡ false → Below sh R n Q → Below sh R (suc n) Q
left_below sh R n Q off h = record {
  lawful = h.lawful;
  gone = λ u l. elim (cases_Bool (eqb u n)) [
    | inl y ↦ subst (λ z. is_active Q z ≡ false) (sym (eqb-true u n y)) (h.stays n (omega arith) ∙ off)
    | inr f ↦ h.gone u (before u n l (eqb-false u n f))
  ];
  stays = λ u l. h.stays u (omega (arith, l));
  only = h.only;
}
  where
    before : (u n : ℕ) → u < suc n → (u ≡ n → ⊥) → u < n
    before u n l k = omega (arith, l, k)

below : (sh : Shape) (R : List Record) (n : ℕ) → IsLawful sh R → Below sh R n (closed_below R n)
below sh R zero h = record { lawful = h; gone = λ u l. absurd (omega (arith, l)); stays = λ u l. refl; only = adds_none }
below sh R (suc n) h = elim (cases_Bool (is_active R n)) [
  | inl y ↦ subst (Below sh R (suc n)) (sym (cond-true _ _ _ y)) (rolled_below sh R n (closed_below R n) y (below sh R n h))
  | inr f ↦ subst (Below sh R (suc n)) (sym (cond-false _ _ _ f)) (left_below sh R n (closed_below R n) f (below sh R n h))
]

pub lists_close : ListsClose
lists_close sh R h =
    let b = below sh R (suc (txn_count R)) h in
    record {
      lawful = b.lawful;
      none_active = λ t. elim (cases_Bool (is_active R t)) [
        | inl y ↦ let l = has_begun_by sh R t h y in b.gone t (omega (arith, l))
        | inr f ↦ none t f b
      ];
      only = b.only;
      extends = adds_extend R (closed R) b.only;
      same = adds_same R (closed R) b.only;
    }
  where
    none : (t : ℕ) → is_active R t ≡ false → Below sh R (suc (txn_count R)) (closed R) → is_active (closed R) t ≡ false
    none t f b = elim (cases_Bool (ltb t (suc (txn_count R)))) [
      | inl y ↦ b.gone t (ltb-true t (suc (txn_count R)) y)
      | inr n ↦ b.stays t (ltb-false t (suc (txn_count R)) n) ∙ f
    ]

pub ahead_is_counted : AheadIsCounted
ahead_is_counted sh R h = record {
  own = λ t. few_own _ R;
  none = λ e t. elim (cases_Bool (is_active R t)) [
    | inl y ↦ let l = has_begun_by sh R t h y in none_counted (is_active R) (suc (txn_count R)) e t (omega (arith, l))
    | inr f ↦ f
  ];
}
