-- Facts of Bool that several proofs need.
use Rattle.std.proofs.Common.{◌≡◌, Bool, true, false, ◌||◌, sym, ◌∙◌, ap₂, inl, inr, true≢false}
use Rattle.seg_words.proofs.Lemmas.{cases_Bool}

-- a test can't come out both ways
pub clash : (v : Bool) → v ≡ true → v ≡ false → ⊥
clash v y n = true≢false (sym y ∙ n)

-- what would be absurd is false
pub off : (v : Bool) → (v ≡ true → ⊥) → v ≡ false
off v f = elim (cases_Bool v) [ inl y ↦ absurd (f y) | inr n ↦ n ]

pub both_off : (u v : Bool) → u ≡ false → v ≡ false → (u || v) ≡ false
both_off u v p q = ap₂ (λ x y. x || y) p q
