-- Facts of some elements of a list.
use Rattle.std.proofs.Common.{List, [], ◌∷◌, ◌++◌, subst, inl, inr, refl}
use Rattle.redo_laws.proofs.lists.Every.{Every}
use Rattle.redo_laws.specs.Among.{IsOneOf, AreSome}

pub one_has : {A : Type 0} (P : A → Type 0) (p : A) (ps : List A) → IsOneOf p ps → Every P ps → P p
one_has P p [] i h = absurd i
one_has P p (q ∷ ps) (inl e) h = subst P e h.0
one_has P p (q ∷ ps) (inr i) h = one_has P p ps i h.1

pub some_have : {A : Type 0} (P : A → Type 0) (ps qs : List A) → AreSome ps qs → Every P ps → Every P qs
some_have P ps [] i h = tt
some_have P ps (q ∷ qs) i h = (one_has P q ps i.0 h, some_have P ps qs i.1 h)

pub some_both : {A : Type 0} (ps qs rs : List A) → AreSome ps qs → AreSome ps rs → AreSome ps (qs ++ rs)
some_both ps [] rs i j = j
some_both ps (q ∷ qs) rs i j = (i.0, some_both ps qs rs i.1 j)

-- from each of a list follows what each is
pub each_one : {A : Type 0} (P : A → Type 0) (ps : List A) → ((p : A) → IsOneOf p ps → P p) → Every P ps
each_one P [] f = tt
each_one P (p ∷ ps) f = (f p (inl refl), each_one P ps (λ q i. f q (inr i)))

pub later_some : {A : Type 0} (p : A) (ps qs : List A) → AreSome ps qs → AreSome (p ∷ ps) qs
later_some p ps [] i = tt
later_some p ps (q ∷ qs) i = (inr i.0, later_some p ps qs i.1)

pub all_some : {A : Type 0} (ps : List A) → AreSome ps ps
all_some [] = tt
all_some (p ∷ ps) = (inl refl, later_some p ps ps (all_some ps))

-- by what each is and has
pub each_from : {A : Type 0} (P Q : A → Type 0) (ps : List A) → ((p : A) → IsOneOf p ps → P p → Q p) → Every P ps → Every Q ps
each_from P Q [] f h = tt
each_from P Q (p ∷ ps) f h = (f p (inl refl) h.0, each_from P Q ps (λ q i. f q (inr i)) h.1)
