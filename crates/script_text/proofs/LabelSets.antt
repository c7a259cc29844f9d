-- Keys that are vectors, seen as their bytes.
use Rattle.std.proofs.Common.{◌≡◌, ℕ, Vec, map, Bool, true, false, not, cond, ◌||◌, List, [], ◌∷◌, ◌++◌, refl, ap, ◌∙◌, sym, bytes_eq, true≢false}
use Rattle.seg_words.proofs.Lemmas.{map-append}
use Rattle.seg_words.specs.Types.{list_any}
use Rattle.std.specs.Bool.{OnTrue}
use Rattle.indexmap.specs.IndexSet.{insert_key}

pub any_map : {A : Type 0} → (q : List ℕ) (ks : List (Vec ℕ A)) → list_any (λ k. bytes_eq q k.items) ks ≡ list_any (bytes_eq q) (map (λ k. k.items) ks)
any_map q [] = refl
any_map q (k ∷ ks) = ap (λ b. bytes_eq q k.items || b) (any_map q ks)

-- a key that isn't there is put at the end
insert_new : {A : Type 0} → (ks : List (Vec ℕ A)) (k : Vec ℕ A) → list_any (λ x. bytes_eq k.items x.items) ks ≡ false → map (λ x. x.items) (insert_key (λ a b. bytes_eq a.items b.items) ks k) ≡ map (λ x. x.items) ks ++ k.items ∷ []
insert_new ks k absent = ap (λ b. map (λ x. x.items) (cond b ks (ks ++ k ∷ []))) absent ∙ map-append (λ x. x.items) ks (k ∷ [])

absent_from : (b : Bool) → true ≡ not b → b ≡ false
absent_from false h = refl
absent_from true h = absurd (true≢false h)

-- the keys after an insert, seen as their bytes
pub bound_new : {A : Type 0} → (new : Bool) (ks after : List (Vec ℕ A)) (k : Vec ℕ A) (label : List ℕ) (old : List (List ℕ)) → new ≡ not (list_any (λ x. bytes_eq k.items x.items) ks) → after ≡ insert_key (λ a b. bytes_eq a.items b.items) ks k → k.items ≡ label → map (λ x. x.items) ks ≡ old → OnTrue new (map (λ x. x.items) after ≡ old ++ label ∷ [])
bound_new true ks after k label old e keys bytes view =
    ap (map (λ x. x.items)) keys ∙ insert_new ks k (absent_from (list_any (λ x. bytes_eq k.items x.items) ks) e)
    ∙ ap (λ q. map (λ x. x.items) ks ++ q ∷ []) bytes ∙ ap (λ (z : List (List ℕ)). z ++ label ∷ []) view
bound_new false ks after k label old e keys bytes view = tt
