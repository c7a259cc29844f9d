-- The list of the blocks that a record touches has each of them, once.
use Rattle.std.proofs.Common.{◌≡◌, ℕ, Bool, true, false, eqb, ◌||◌, List, [], ◌∷◌, ◌++◌, refl, sym, ap, ◌∙◌, inl, inr}
use Rattle.std.proofs.lemmas.Bool.{cases_Bool, eqb-true, eq-eqb, true≢false}
use Rattle.page_set.specs.Among.{is_among}
use Rattle.page_set.specs.Folded.{touched, with_block, with_all}
use Rattle.page_set.specs.Says.{IsOnce, OthersStay, TouchedAreListed}
use Rattle.page_set.proofs.Quiet.{or_left, or_right}

or_assoc : (a b c : Bool) → ((a || b) || c) ≡ (a || (b || c))
or_assoc true b c = refl
or_assoc false b c = refl

or_none : (a : Bool) → (a || false) ≡ a
or_none true = refl
or_none false = refl

or_true : (a : Bool) → (a || true) ≡ true
or_true true = refl
or_true false = refl

behind : (ds : List ℕ) (x d : ℕ) → is_among (ds ++ x ∷ []) d ≡ (is_among ds d || eqb x d)
behind [] x d = or_none (eqb x d)
behind (y ∷ ds) x d = ap (λ (b : Bool). eqb y d || b) (behind ds x d) ∙ sym (or_assoc (eqb y d) (is_among ds d) (eqb x d))

among_with : (ds : List ℕ) (x d : ℕ) → is_among (with_block ds x) d ≡ (is_among ds d || eqb x d)
among_with ds x d = elim (cases_Bool (is_among ds x)) [ inl y ↦ rw y (there y) | inr n ↦ rw n (behind ds x d) ]
  where
    there : is_among ds x ≡ true → is_among ds d ≡ (is_among ds d || eqb x d)
    there y = elim (cases_Bool (eqb x d)) [
      | inl same ↦ rw same (ap (is_among ds) (sym (eqb-true x d same)) ∙ y ∙ sym (or_true (is_among ds d)))
      | inr other ↦ rw other (sym (or_none (is_among ds d)))
    ]

among_all : (ds xs : List ℕ) (d : ℕ) → is_among (with_all ds xs) d ≡ (is_among ds d || is_among xs d)
among_all ds [] d = sym (or_none (is_among ds d))
among_all ds (x ∷ xs) d = among_all (with_block ds x) xs d ∙ ap (λ (b : Bool). b || is_among xs d) (among_with ds x d) ∙ or_assoc (is_among ds d) (eqb x d) (is_among xs d)

once_behind : (ds : List ℕ) (x : ℕ) → IsOnce ds → is_among ds x ≡ false → IsOnce (ds ++ x ∷ [])
once_behind [] x o n = (refl, tt)
once_behind (y ∷ ds) x o n =
    (behind ds x y ∙ ap (λ (b : Bool). b || eqb x y) o.0 ∙ eqb_other x y (or_left (eqb y x) (is_among ds x) n), once_behind ds x o.1 (or_right (eqb y x) (is_among ds x) n))
  where
    eqb_other : (a b : ℕ) → eqb b a ≡ false → eqb a b ≡ false
    eqb_other a b e = elim (cases_Bool (eqb a b)) [ inl same ↦ absurd (true≢false (sym (eq-eqb b a (sym (eqb-true a b same))) ∙ e)) | inr other ↦ other ]

once_with : (ds : List ℕ) (x : ℕ) → IsOnce ds → IsOnce (with_block ds x)
once_with ds x o = elim (cases_Bool (is_among ds x)) [ inl y ↦ rw y o | inr n ↦ rw n (once_behind ds x o n) ]

once_all : (ds xs : List ℕ) → IsOnce ds → IsOnce (with_all ds xs)
once_all ds [] o = o
once_all ds (x ∷ xs) o = once_all (with_block ds x) xs (once_with ds x o)

pub are_listed : TouchedAreListed
are_listed sh r = (λ (d : ℕ). among_all [] (touched sh r) d, once_all [] (touched sh r) tt)

pub others_stay : OthersStay
others_stay sh R r d h = rw (sym (among_all [] (touched sh r) d) ∙ h) refl
