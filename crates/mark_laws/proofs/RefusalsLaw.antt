-- Which refusal a search gives.
use Rattle.std.proofs.Common.{◌≡◌, ℕ, ◌<◌, ◌≤◌, true, false, ltb, List, length, Option, None, refl, sym, ◌∙◌, ap, subst, arith, inl, inr, ltb-true, lt-ltb}
use Rattle.seg_words.proofs.Lemmas.{cond-true, cond-false, cases_Bool}
use Rattle.seg_words.specs.Types.{Shape, MOST_EXTENTS, is_shape}
use Rattle.redo_model.specs.Records.{Record}
use Rattle.redo_model.specs.Model.{extents_of, IsTable, IsLawful}
use Rattle.mark_laws.specs.declared.step.Refusal.{Refusal}
use Rattle.mark_laws.specs.declared.step.Refusal.TheVariants as refusal
use Rattle.mark_laws.specs.Searches.{Sought, find_of, IsRefused, SearchGives}
use Rattle.mark_laws.specs.Refusals.{refusal_of, IsRefusal, RefusalsMean}
use Rattle.mark_laws.proofs.SearchesLaw.{searches_mean}
use Rattle.mark_laws.proofs.ThereLaw.{tables_have_extents}

few_tells : (n : ℕ) → ltb n MOST_EXTENTS ≡ false → n ≤ MOST_EXTENTS → n ≡ MOST_EXTENTS
few_tells n f l = elim (cases_Bool (ltb n MOST_EXTENTS)) [
  | inl y ↦ absurd (let x : true ≡ false = sym y ∙ f in cc)
  | inr z ↦ (let k : n < MOST_EXTENTS → ⊥ = (λ m. let x : true ≡ false = sym (lt-ltb n MOST_EXTENTS m) ∙ f in cc) in omega (arith, k, l))
]

lacks : (sh : Shape) (R : List Record) (q : Sought) → IsRefused sh R q → length (extents_of R q.obj) < MOST_EXTENTS → IsRefusal sh R q (refusal.NoSpace q.len)
lacks sh R q h few = record {
  none_takes = h.none_takes;
  full = h.no_mark.full;
  few = few;
  none_free = elim h.no_mark.extent [ inl most ↦ absurd (omega (arith, most, few)) | inr none ↦ none ];
  is_length = refl;
}

refusal_is : (sh : Shape) (R : List Record) (q : Sought) → length (extents_of R q.obj) ≤ MOST_EXTENTS → IsRefused sh R q → IsRefusal sh R q (refusal_of R q)
refusal_is sh R q most h = elim (cases_Bool (ltb (length (extents_of R q.obj)) MOST_EXTENTS)) [
  | inl y ↦ subst (IsRefusal sh R q) (sym (cond-true _ _ _ y)) (lacks sh R q h (ltb-true _ _ y))
  | inr f ↦ subst (IsRefusal sh R q) (sym (cond-false _ _ _ f)) (record { none_takes = h.none_takes; full = h.no_mark.full; most = few_tells _ f most; is_most = refl })
]

refused_by : (sh : Shape) (R : List Record) (q : Sought) (f : Refusal) → IsRefusal sh R q f → IsRefused sh R q
refused_by sh R q (refusal.NoSpace need) h = record { none_takes = h.none_takes; no_mark = record { full = h.full; extent = inr h.none_free } }
refused_by sh R q (refusal.MaxExtents count) h = record { none_takes = h.none_takes; no_mark = record { full = h.full; extent = inl h.most } }

only_refusal : (sh : Shape) (R : List Record) (q : Sought) (f : Refusal) → IsRefusal sh R q f → f ≡ refusal_of R q
only_refusal sh R q (refusal.NoSpace need) h = ap (λ n. refusal.NoSpace n) h.is_length ∙ sym (cond-true _ _ _ (lt-ltb _ _ h.few))
only_refusal sh R q (refusal.MaxExtents count) h = ap (λ n. refusal.MaxExtents n) h.is_most ∙ sym (cond-false _ _ _ (ap (λ n. ltb n MOST_EXTENTS) h.most))

pub refusals_mean : RefusalsMean
refusals_mean sh R q hint s h t = record {
  is = λ e. refusal_is sh R q (tables_have_extents sh R q.obj h t).few (subst (SearchGives sh R q hint) e (searches_mean sh R q hint s h.allowed t).gives);
  refused = λ f i. (searches_mean sh R q hint s h.allowed t).refused (refused_by sh R q f i);
  only = only_refusal sh R q;
}
