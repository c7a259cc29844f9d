-- Which extents are taken, after one more record.
use Rattle.std.proofs.Common.{◌≡◌, ℕ, zero, suc, ◌<◌, ◌≤◌, Bool, true, false, cond, ◌||◌, eqb, leb, ◌&&◌, List, [], ◌∷◌, ◌++◌, refl, sym, ap, ap₂, ◌∙◌, inl, inr, arith}
use Rattle.std.proofs.lemmas.Bool.{cases_Bool, cases_order, eqb-true, eq-eqb, ne_eqb, cond-true, cond-false}
use Rattle.redo_record.specs.declared.record.Record.{Record}
use Rattle.redo_record.specs.declared.record.Record.TheVariants.{Extend}
use Rattle.redo_record.specs.declared.space.ExtendRecord.{ExtendRecord}
use Rattle.redo_model.specs.Segments.{Extent, extents_of, has_extent, is_taken}

pub taken_same : (R S : List Record) (n x : ℕ) → ((o : ℕ) → extents_of S o ≡ extents_of R o) → is_taken S n x ≡ is_taken R n x
taken_same R S zero x h = refl
taken_same R S (suc n) x h = ap₂ (λ (es : List Extent) (b : Bool). has_extent es x || b) (h (suc n)) (taken_same R S n x h)

or_none : (a : Bool) → (a || false) ≡ a
or_none true = refl
or_none false = refl

or_move : (a b c : Bool) → ((a || b) || c) ≡ ((a || c) || b)
or_move true b c = refl
or_move false true true = refl
or_move false true false = refl
or_move false false true = refl
or_move false false false = refl

or_apart : (a b c : Bool) → ((a || (b || c))) ≡ ((a || b) || c)
or_apart true b c = refl
or_apart false b c = refl

has_more : (es : List Extent) (e : Extent) (x : ℕ) → has_extent (es ++ e ∷ []) x ≡ (has_extent es x || eqb e.number x)
has_more [] e x = or_none (eqb e.number x)
has_more (f ∷ es) e x = ap (λ (b : Bool). eqb f.number x || b) (has_more es e x) ∙ or_apart (eqb f.number x) (has_extent es x) (eqb e.number x)

-- tables below the one that gets the extent, and from it on
taken_below : (R : List Record) (e : ExtendRecord) (n x : ℕ) → n < e.obj → is_taken (Extend e ∷ R) n x ≡ is_taken R n x
taken_below R e zero x lt = refl
taken_below R e (suc n) x lt =
    ap₂ (λ (es : List Extent) (b : Bool). has_extent es x || b) (cond-false _ _ _ (ne_eqb e.obj (suc n) (λ k. omega (arith, k, lt)))) (taken_below R e n x (omega (arith, lt)))

pub taken_extend : (R : List Record) (e : ExtendRecord) (n x : ℕ) → 1 ≤ e.obj → e.obj ≤ n → is_taken (Extend e ∷ R) n x ≡ (is_taken R n x || eqb e.extent x)
taken_extend R e zero x one le = absurd (omega (arith, one, le))
taken_extend R e (suc n) x one le = elim (cases_order e.obj (suc n)) [
  | inl same ↦
      ap₂ (λ (es : List Extent) (b : Bool). has_extent es x || b) (cond-true _ _ _ (eq-eqb e.obj (suc n) same)) (taken_below R e n x (omega (arith, same)))
      ∙ ap (λ (b : Bool). b || is_taken R n x) (has_more (extents_of R (suc n)) _ x)
      ∙ or_move (has_extent (extents_of R (suc n)) x) (eqb e.extent x) (is_taken R n x)
  | inr w ↦ elim w [
    | inl lt ↦
        ap₂ (λ (es : List Extent) (b : Bool). has_extent es x || b) (cond-false _ _ _ (ne_eqb e.obj (suc n) (λ k. omega (arith, k, lt)))) (taken_extend R e n x one (omega (arith, lt)))
        ∙ or_apart (has_extent (extents_of R (suc n)) x) (is_taken R n x) (eqb e.extent x)
    | inr gt ↦ absurd (omega (arith, gt, le))
  ]
]
