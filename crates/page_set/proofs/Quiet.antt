-- A block that isn't among some isn't one of them.
use Rattle.std.proofs.Common.{◌≡◌, ℕ, Bool, true, false, eqb, ◌||◌, List, refl}
use Rattle.std.proofs.lemmas.Bool.{true≢false}
use Rattle.page_set.specs.Among.{is_among}

pub or_left : (a b : Bool) → (a || b) ≡ false → a ≡ false
or_left true b h = h
or_left false b h = refl

pub or_right : (a b : Bool) → (a || b) ≡ false → b ≡ false
or_right true b h = absurd (true≢false h)
or_right false b h = h

pub first_other : (x : ℕ) (xs : List ℕ) (d : ℕ) → (eqb x d || is_among xs d) ≡ false → eqb x d ≡ false
first_other x xs d h = or_left (eqb x d) (is_among xs d) h

pub rest_other : (x : ℕ) (xs : List ℕ) (d : ℕ) → (eqb x d || is_among xs d) ≡ false → is_among xs d ≡ false
rest_other x xs d h = or_right (eqb x d) (is_among xs d) h
