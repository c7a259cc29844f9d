-- The newest item of a list that is kept in order.
use Rattle.std.proofs.Common.{◌≡◌, ◌+◌, ◌-◌, ◌<◌, ◌≤◌, List, [], ◌∷◌, ◌++◌, length, reverse, take, get_or, refl, sym, ◌∙◌, ap, subst, arith, take_all}
use Rattle.std.proofs.lemmas.List.{take_more, reverse-append}
use Rattle.history_model.specs.declared.history.HistoryItem.{HistoryItem}
use Rattle.session_world.specs.Telling.{IsNewest}

last_split : {A : Type 0} (xs : List A) (x : A) → 0 < length xs → x ≡ get_or xs (length xs - 1) x → xs ≡ take (length xs - 1) xs ++ x ∷ []
last_split xs x some e =
    let n = length xs - 1 in
    let more : take (n + 1) xs ≡ take n xs ++ get_or xs n x ∷ [] = take_more xs n x (omega (arith, some)) in
    let all : take (n + 1) xs ≡ xs = take_all (n + 1) xs (omega (arith, some)) in
    sym all ∙ more ∙ ap (λ z. take n xs ++ z ∷ []) (sym e)

pub newest_some : (xs T : List HistoryItem) (x : HistoryItem) → reverse xs ≡ T → 0 < length xs → x ≡ get_or xs (length xs - 1) x → IsNewest T x
newest_some xs T x e some at =
    let n = length xs - 1 in
    let is : reverse xs ≡ x ∷ reverse (take n xs) = ap (λ (z : List HistoryItem). reverse z) (last_split xs x some at) ∙ reverse-append (take n xs) (x ∷ []) in
    subst (λ (z : List HistoryItem). IsNewest z x) (sym is ∙ e) refl

pub newest_none : (xs T : List HistoryItem) → reverse xs ≡ T → length xs ≤ 0 → T ≡ []
newest_none [] T e none = sym e
newest_none (x ∷ xs) T e none = absurd (omega (arith, none))
