-- A fact of each element of a list, and filters.
use Rattle.std.proofs.Common.{◌≡◌, Bool, true, false, cond, List, [], ◌∷◌, filter, refl, ◌∙◌, ap, inl, inr}
use Rattle.seg_words.proofs.Lemmas.{cond-true, cases_Bool}

abbrev pub Every : {A : Type 0} → (A → Type 0) → List A → Type 0
Every P [] = Unit {0}
Every P (x ∷ xs) = P x × Every P xs

pub every-map : {A : Type 0} (P Q : A → Type 0) (xs : List A) → ((x : A) → P x → Q x) → Every P xs → Every Q xs
every-map P Q [] w h = tt
every-map P Q (x ∷ xs) w h = (w x h.0, every-map P Q xs w h.1)

pub every-filter : {A : Type 0} (P : A → Type 0) (f : A → Bool) (xs : List A) → Every P xs → Every P (filter f xs)
every-filter P f [] h = tt
every-filter P f (x ∷ xs) h = elim (f x) as (λ v. Every P (cond v (x ∷ filter f xs) (filter f xs))) [ true ↦ (h.0, every-filter P f xs h.1) | false ↦ every-filter P f xs h.1 ]

pub filter-all : {A : Type 0} (f : A → Bool) (xs : List A) → Every (λ x. f x ≡ true) xs → filter f xs ≡ xs
filter-all f [] h = refl
filter-all f (x ∷ xs) h = cond-true _ _ _ h.0 ∙ ap (λ ys. x ∷ ys) (filter-all f xs h.1)

pub filter-swap : {A : Type 0} (f g : A → Bool) (xs : List A) → filter f (filter g xs) ≡ filter g (filter f xs)
filter-swap f g [] = refl
filter-swap f g (x ∷ xs) =
    elim (cases_Bool (f x)) [
      | inl p ↦ elim (cases_Bool (g x)) [ inl q ↦ simp (p, q) (ap (λ ys. x ∷ ys) (filter-swap f g xs)) | inr q ↦ simp (p, q) (filter-swap f g xs) ]
      | inr p ↦ elim (cases_Bool (g x)) [ inl q ↦ simp (p, q) (filter-swap f g xs) | inr q ↦ simp (p, q) (filter-swap f g xs) ]
    ]
