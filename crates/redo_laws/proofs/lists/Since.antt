-- Records after the first n of a list.
use Rattle.std.proofs.Common.{◌≡◌, ℕ, ◌≤◌, Bool, false, ◌||◌, List, [], ◌∷◌, length, refl, sym, ◌∙◌, le-ltb, lt-ltb}
use Rattle.seg_words.proofs.Lemmas.{cond-true, cond-false, or_parts}
use Rattle.redo_model.specs.Records.{Record}
use Rattle.redo_model.specs.Model.{Extends}
use Rattle.redo_model.specs.Lists.{same, more}
use Rattle.redo_laws.specs.Since.{any_since}
use Rattle.redo_laws.proofs.lists.Prefixes.{extends_length}

pub since_more : (p : Record → Bool) (n : ℕ) (R : List Record) (r : Record) → n ≤ length R → any_since p n (r ∷ R) ≡ (p r || any_since p n R)
since_more p n R r l = cond-false _ _ _ (le-ltb (length R) n l)

-- none since the end
pub since_none : (p : Record → Bool) (R : List Record) (n : ℕ) → length R ≤ n → any_since p n R ≡ false
since_none p [] n l = refl
since_none p (r ∷ R) n l = cond-true _ _ _ (lt-ltb (length R) n l)

-- by induction on the records added to Q, of which none is so
pub each_since : (p : Record → Bool) (P : List Record → Type 0) (Q R : List Record) → Extends Q R → any_since p (length Q) R ≡ false → P Q → ((S : List Record) (r : Record) → Extends Q S → Extends (r ∷ S) R → p r ≡ false → P S → P (r ∷ S)) → P R
each_since p P Q _ same n h f = h
each_since p P Q (r ∷ R) (more _ x) n h f =
    let q = or_parts (p r) (any_since p (length Q) R) (sym (since_more p (length Q) R r (extends_length Q R x)) ∙ n) in
    f R r x same q.0 (each_since p P Q R x q.1 h (λ S s y z e k. f S s y (more r z) e k))
