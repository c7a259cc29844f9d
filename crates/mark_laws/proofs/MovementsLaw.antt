-- Which movement of a table's marks is the next one.
use Rattle.std.proofs.Common.{◌≡◌, ℕ, ◌<◌, ◌≤◌, true, false, cond, ltb, List, length, Option, Some, None, refl, sym, ◌∙◌, ap, subst, arith, inl, inr, lt-ltb, le-ltb, ltb-true, ltb-false}
use Rattle.seg_words.proofs.Lemmas.{cond-true, cond-false, cases_Bool}
use Rattle.seg_words.specs.Types.{Shape, is_shape, MOST_EXTENTS}
use Rattle.redo_model.specs.Records.{Record}
use Rattle.redo_model.specs.Model.{extents_of, data_blocks, high_mark, under_high, first_unformatted, IsTable, AreAllowed}
use Rattle.redo_laws.proofs.space.LowMark.{low}
use Rattle.redo_laws.proofs.space.Places.{segments, a_table}
use Rattle.redo_laws.proofs.space.ApartLaw.{placed}
use Rattle.mark_laws.specs.declared.step.MarkStep.{MarkStep}
use Rattle.mark_laws.specs.declared.step.MarkStep.TheVariants as step
use Rattle.mark_laws.specs.Movements.{extend_if, format_else, next_growth, next_mark, least_free, IsFull, IsNextMark, NoMark, NextMarksMean}
use Rattle.mark_laws.proofs.Numbers.{none_not_some, some_same, least_free_is, least_free_found, least_free_none, least_free_empty}

-- the high mark is at most the count of data blocks, and there are at most 900 extents
record Bounds (sh : Shape) (R : List Record) (o : ℕ) : Type 0 where
  high : high_mark R o ≤ length (data_blocks sh R o)
  extents : length (extents_of R o) ≤ MOST_EXTENTS

bounds : (sh : Shape) (R : List Record) (o : ℕ) → AreAllowed sh R → IsTable R o → Bounds sh R o
bounds sh R o h t =
    let n = a_table sh R o (segments sh R h) t in
    record { high = (low sh R o h n.least n.most).within; extents = (placed sh R o h).few }

full_when : (sh : Shape) (R : List Record) (o : ℕ) → Bounds sh R o → first_unformatted sh R (under_high sh R o) ≡ None → ltb (high_mark R o) (length (data_blocks sh R o)) ≡ false → IsFull sh R o
full_when sh R o b u f = let l = ltb-false _ _ f in let k = b.high in record { formatted = u; high = omega (arith, l, k) }

extend_is : (sh : Shape) (R : List Record) (o : ℕ) (m : MarkStep) (x : Option ℕ) → IsFull sh R o → length (extents_of R o) < MOST_EXTENTS → least_free sh R ≡ x → extend_if x ≡ Some m → IsNextMark sh R o m
extend_is sh R o m None full few is h = absurd (none_not_some m h)
extend_is sh R o m (Some x) full few is h = subst (IsNextMark sh R o) (some_same (step.Extend x) m h) (record { full = full; few = few; extent = least_free_is sh R x is })

growth_is : (sh : Shape) (R : List Record) (o : ℕ) (m : MarkStep) → Bounds sh R o → first_unformatted sh R (under_high sh R o) ≡ None → next_growth sh R o ≡ Some m → IsNextMark sh R o m
growth_is sh R o m b u h = elim (cases_Bool (ltb (high_mark R o) (length (data_blocks sh R o)))) [
  | inl t ↦ subst (IsNextMark sh R o) (some_same step.Advance m (sym (cond-true _ _ _ t) ∙ h)) (record { formatted = u; room = ltb-true _ _ t })
  | inr f ↦ elim (cases_Bool (ltb (length (extents_of R o)) MOST_EXTENTS)) [
    | inl t ↦ extend_is sh R o m (least_free sh R) (full_when sh R o b u f) (ltb-true _ _ t) refl (sym (cond-false _ _ _ f ∙ cond-true _ _ _ t) ∙ h)
    | inr g ↦ absurd (none_not_some m (sym (cond-false _ _ _ f ∙ cond-false _ _ _ g) ∙ h))
  ]
]

mark_is : (sh : Shape) (R : List Record) (o : ℕ) (m : MarkStep) (u : Option ℕ) → Bounds sh R o → first_unformatted sh R (under_high sh R o) ≡ u → format_else u (next_growth sh R o) ≡ Some m → IsNextMark sh R o m
mark_is sh R o m (Some d) b is h = subst (IsNextMark sh R o) (some_same (step.Format d) m h) is
mark_is sh R o m None b is h = growth_is sh R o m b is h

-- where all is formatted the growth decides
grown : (sh : Shape) (R : List Record) (o : ℕ) → first_unformatted sh R (under_high sh R o) ≡ None → next_mark sh R o ≡ next_growth sh R o
grown sh R o u = ap (λ x. format_else x (next_growth sh R o)) u

past_high : (sh : Shape) (R : List Record) (o : ℕ) → IsFull sh R o → ltb (high_mark R o) (length (data_blocks sh R o)) ≡ false
past_high sh R o f = let e = f.high in le-ltb _ _ (omega (arith, e))

mark_tells : (sh : Shape) (R : List Record) (o : ℕ) (m : MarkStep) → is_shape sh ≡ true → IsNextMark sh R o m → next_mark sh R o ≡ Some m
mark_tells sh R o (step.Format d) s h = ap (λ x. format_else x (next_growth sh R o)) h
mark_tells sh R o step.Advance s h = grown sh R o h.formatted ∙ cond-true _ _ _ (lt-ltb _ _ h.room)
mark_tells sh R o (step.Extend x) s h =
    grown sh R o h.full.formatted ∙ cond-false _ _ _ (past_high sh R o h.full) ∙ cond-true _ _ _ (lt-ltb _ _ h.few)
    ∙ ap extend_if (least_free_found sh R x s h.extent)

no_extent : (sh : Shape) (R : List Record) (o : ℕ) (x : Option ℕ) → is_shape sh ≡ true → least_free sh R ≡ x → extend_if x ≡ None → least_free sh R ≡ None
no_extent sh R o None s is h = is
no_extent sh R o (Some x) s is h = absurd (none_not_some (step.Extend x) (sym h))

no_growth : (sh : Shape) (R : List Record) (o : ℕ) → is_shape sh ≡ true → Bounds sh R o → first_unformatted sh R (under_high sh R o) ≡ None → next_growth sh R o ≡ None → NoMark sh R o
no_growth sh R o s b u h = elim (cases_Bool (ltb (high_mark R o) (length (data_blocks sh R o)))) [
  | inl t ↦ absurd (none_not_some step.Advance (sym h ∙ cond-true _ _ _ t))
  | inr f ↦ elim (cases_Bool (ltb (length (extents_of R o)) MOST_EXTENTS)) [
    | inl t ↦ record { full = full_when sh R o b u f; extent = inr (least_free_none sh R s (no_extent sh R o (least_free sh R) s refl (sym (cond-false _ _ _ f ∙ cond-true _ _ _ t) ∙ h))) }
    | inr g ↦ (let l = ltb-false _ _ g in let k = b.extents in record { full = full_when sh R o b u f; extent = inl (omega (arith, l, k)) })
  ]
]

no_mark : (sh : Shape) (R : List Record) (o : ℕ) (u : Option ℕ) → is_shape sh ≡ true → Bounds sh R o → first_unformatted sh R (under_high sh R o) ≡ u → format_else u (next_growth sh R o) ≡ None → NoMark sh R o
no_mark sh R o (Some d) s b is h = absurd (none_not_some (step.Format d) (sym h))
no_mark sh R o None s b is h = no_growth sh R o s b is h

refused : (sh : Shape) (R : List Record) (o : ℕ) → NoMark sh R o → next_mark sh R o ≡ None
refused sh R o h = grown sh R o h.full.formatted ∙ cond-false _ _ _ (past_high sh R o h.full) ∙ elim h.extent [
  | inl e ↦ (let most : MOST_EXTENTS ≤ length (extents_of R o) = omega (arith, e) in cond-false _ _ _ (le-ltb (length (extents_of R o)) MOST_EXTENTS most))
  | inr f ↦ elim (ltb (length (extents_of R o)) MOST_EXTENTS) as (λ v. cond v (extend_if (least_free sh R)) None ≡ None) [ true ↦ ap extend_if (least_free_empty sh R f) | false ↦ refl ]
]

pub next_marks_mean : NextMarksMean
next_marks_mean sh R o s h t =
    let b = bounds sh R o h t in
    record {
      is = λ m e. mark_is sh R o m (first_unformatted sh R (under_high sh R o)) b refl e;
      tells = λ m k. mark_tells sh R o m s k;
      none = λ e. no_mark sh R o (first_unformatted sh R (under_high sh R o)) s b refl e;
      refused = refused sh R o;
    }
