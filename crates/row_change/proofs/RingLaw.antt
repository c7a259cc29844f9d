-- The ring of undo blocks, as it is searched behind the current one.
use Rattle.std.proofs.Common.{◌≡◌, ℕ, zero, suc, ◌+◌, ◌-◌, ◌<◌, ◌≤◌, Bool, true, false, not, ltb, List, [], ◌∷◌, ◌++◌, length, take, drop, get_or, find, Option, Some, None, refl, sym, ◌∙◌, ap, arith, inl, inr, length-append, ltb-true, ltb-false}
use Rattle.std.proofs.lemmas.List.{get_or_append_left, get_or-append_right, drop_more}
use Rattle.seg_words.proofs.Lemmas.{cond-true, cond-false, cases_Bool}
use Rattle.seg_words.specs.Types.{Shape}
use Rattle.redo_model.specs.Records.{Record}
use Rattle.redo_model.specs.Model.{blocks_from, current_undo, has_holder, next_undo, ring_after, undo_holder}
use Rattle.change_laws.specs.Types.{Next, Full, holder_pair, holder_pairs, reuse_of, spot_past}
use Rattle.row_change.specs.Spots.{nth_of_ring, spot_behind}

blocks_length : (a k : ℕ) → length (blocks_from a k) ≡ k
blocks_length a zero = refl
blocks_length a (suc k) = ap (λ m. suc m) (blocks_length (suc a) k)

blocks_nth : (a k n : ℕ) → n < k → get_or (blocks_from a k) n 0 ≡ a + n
blocks_nth a zero n l = absurd (omega (arith, l))
blocks_nth a (suc k) zero l = omega arith
blocks_nth a (suc k) (suc n) l = let e = blocks_nth (suc a) k n (omega (arith, l)) in omega (arith, e)

ring_length : (sh : Shape) (u : ℕ) → 37 ≤ u → u < 37 + sh.undo → length (ring_after sh u) + 1 ≡ sh.undo
ring_length sh u f t =
    let a = length-append (blocks_from (suc u) (36 + sh.undo - u)) (blocks_from 37 (u - 37)) in
    let b = blocks_length (suc u) (36 + sh.undo - u) in
    let c = blocks_length 37 (u - 37) in
    omega (arith, a, b, c, f, t)

ring_nth : (sh : Shape) (u n : ℕ) → 37 ≤ u → u < 37 + sh.undo → n + 1 < sh.undo → get_or (ring_after sh u) n 0 ≡ nth_of_ring sh u n
ring_nth sh u n f t l =
    let xs = blocks_from (suc u) (36 + sh.undo - u) in
    let ys = blocks_from 37 (u - 37) in
    let len : length xs ≡ 36 + sh.undo - u = blocks_length (suc u) (36 + sh.undo - u) in
    elim (cases_Bool (ltb (u + 1 + n) (37 + sh.undo))) [
      | inl y ↦
          let z = ltb-true (u + 1 + n) (37 + sh.undo) y in
          let e : get_or xs n 0 ≡ u + 1 + n = (let k = blocks_nth (suc u) (36 + sh.undo - u) n (omega (arith, z, t)) in omega (arith, k)) in
          get_or_append_left xs ys 0 n (omega (arith, len, z, t)) ∙ e ∙ sym (cond-true _ (u + 1 + n) (u + 1 + n - sh.undo) y)
      | inr y ↦
          let z = ltb-false (u + 1 + n) (37 + sh.undo) y in
          let m = n - (36 + sh.undo - u) in
          let e : get_or ys m 0 ≡ u + 1 + n - sh.undo = (let k = blocks_nth 37 (u - 37) m (omega (arith, z, t, f, l)) in omega (arith, k, z, t, f)) in
          get_or-append_right xs ys (36 + sh.undo - u) n 0 len (omega (arith, z, t)) ∙ e ∙ sym (cond-false _ (u + 1 + n) (u + 1 + n - sh.undo) y)
    ]

abbrev free_in : List Record → ℕ → Bool
free_in R b = not (has_holder R b)

-- the first n blocks behind block u have holders, and these
pub record Searched (sh : Shape) (R : List Record) (u n : ℕ) (hs : List (ℕ × ℕ)) : Type 0 where
  found : find (free_in R) (ring_after sh u) ≡ find (free_in R) (drop n (ring_after sh u))
  held : hs ≡ holder_pairs R (take n (ring_after sh u))

pub searched_none : (sh : Shape) (R : List Record) (u : ℕ) → Searched sh R u 0 []
searched_none sh R u = record { found = refl; held = refl }

pair_more : (x : ℕ) (o : Option ℕ) (ps qs : List (ℕ × ℕ)) → holder_pair x o (ps ++ qs) ≡ holder_pair x o ps ++ qs
pair_more x None ps qs = refl
pair_more x (Some t) ps qs = refl

pairs_more : (R : List Record) (xs : List ℕ) (b t : ℕ) → undo_holder R b ≡ Some t → holder_pairs R (xs ++ b ∷ []) ≡ holder_pairs R xs ++ (b, t) ∷ []
pairs_more R [] b t e = ap (λ (o : Option ℕ). holder_pair b o []) e
pairs_more R (x ∷ xs) b t e = ap (holder_pair x (undo_holder R x)) (pairs_more R xs b t e) ∙ pair_more x (undo_holder R x) (holder_pairs R xs) ((b, t) ∷ [])

take_more : (xs : List ℕ) (n : ℕ) → n < length xs → take (suc n) xs ≡ take n xs ++ get_or xs n 0 ∷ []
take_more [] n l = absurd (omega (arith, l))
take_more (x ∷ xs) zero l = refl
take_more (x ∷ xs) (suc n) l = ap (λ (ys : List ℕ). x ∷ ys) (take_more xs n (omega (arith, l)))

all_taken : (xs : List ℕ) (n : ℕ) → length xs ≤ n → (take n xs ≡ xs) × (drop n xs ≡ [])
all_taken [] zero l = (refl, refl)
all_taken [] (suc n) l = (refl, refl)
all_taken (x ∷ xs) zero l = absurd (omega (arith, l))
all_taken (x ∷ xs) (suc n) l = let k = all_taken xs n (omega (arith, l)) in (ap (λ (ys : List ℕ). x ∷ ys) k.0, k.1)

holder_free : (R : List Record) (b : ℕ) (o : Option ℕ) → undo_holder R b ≡ o → free_in R b ≡ not (elim o as (λ _. Bool) [ None ↦ false | Some t ↦ true ])
holder_free R b o e = ap (λ (x : Option ℕ). not (elim x as (λ _. Bool) [ None ↦ false | Some t ↦ true ])) e

-- the next block
next_block : (sh : Shape) (R : List Record) (u n : ℕ) → 37 ≤ u → u < 37 + sh.undo → n + 1 < sh.undo → drop n (ring_after sh u) ≡ nth_of_ring sh u n ∷ drop (n + 1) (ring_after sh u)
next_block sh R u n f t l =
    let len = ring_length sh u f t in
    drop_more (ring_after sh u) n 0 (omega (arith, len, l)) ∙ ap (λ (b : ℕ). b ∷ drop (n + 1) (ring_after sh u)) (ring_nth sh u n f t l)

pub searched_held : (sh : Shape) (R : List Record) (u n t : ℕ) (hs gs : List (ℕ × ℕ)) → 37 ≤ u → u < 37 + sh.undo → n + 1 < sh.undo → undo_holder R (nth_of_ring sh u n) ≡ Some t → gs ≡ hs ++ (nth_of_ring sh u n, t) ∷ [] → Searched sh R u n hs → Searched sh R u (n + 1) gs
searched_held sh R u n t hs gs f to l e g s =
    let b = nth_of_ring sh u n in
    let len = ring_length sh u f to in
    let one : n + 1 ≡ suc n = omega arith in
    record {
      found = s.found ∙ ap (find (free_in R)) (next_block sh R u n f to l) ∙ cond-false _ _ _ (holder_free R b (Some t) e);
      held = g ∙ ap (λ (ps : List (ℕ × ℕ)). ps ++ (b, t) ∷ []) s.held ∙ sym (pairs_more R (take n (ring_after sh u)) b t e)
          ∙ ap (λ (x : ℕ). holder_pairs R (take n (ring_after sh u) ++ x ∷ [])) (sym (ring_nth sh u n f to l))
          ∙ ap (holder_pairs R) (sym (take_more (ring_after sh u) n (omega (arith, len, l)))) ∙ ap (λ m. holder_pairs R (take m (ring_after sh u))) (sym one);
    }

ring_first : (sh : Shape) (R : List Record) (u : ℕ) → current_undo R ≡ Some u → next_undo sh R ≡ find (free_in R) (ring_after sh u)
ring_first sh R u e = ap (λ (o : Option ℕ). elim o as (λ x. Option ℕ) [ None ↦ Some 37 | Some v ↦ find (free_in R) (ring_after sh v) ]) e

pub searched_free : (sh : Shape) (R : List Record) (u n : ℕ) (hs : List (ℕ × ℕ)) → 37 ≤ u → u < 37 + sh.undo → n + 1 < sh.undo → current_undo R ≡ Some u → undo_holder R (nth_of_ring sh u n) ≡ None → Searched sh R u n hs
    → Next (reuse_of R (nth_of_ring sh u n)) ≡ spot_behind sh R u
searched_free sh R u n hs f t l c e s =
    let b = nth_of_ring sh u n in
    let found : next_undo sh R ≡ Some b = ring_first sh R u c ∙ s.found ∙ ap (find (free_in R)) (next_block sh R u n f t l) ∙ cond-true _ _ _ (holder_free R b None e) in
    ap (λ (o : Option ℕ). spot_past R o (holder_pairs R (ring_after sh u))) (sym found)

pub searched_all : (sh : Shape) (R : List Record) (u n : ℕ) (hs : List (ℕ × ℕ)) → 37 ≤ u → u < 37 + sh.undo → sh.undo ≤ n + 1 → current_undo R ≡ Some u → Searched sh R u n hs → Full hs ≡ spot_behind sh R u
searched_all sh R u n hs f t l c s =
    let len = ring_length sh u f t in
    let k = all_taken (ring_after sh u) n (omega (arith, len, l)) in
    let none : next_undo sh R ≡ None = ring_first sh R u c ∙ s.found ∙ ap (find (free_in R)) k.1 in
    ap Full (s.held ∙ ap (holder_pairs R) k.0) ∙ ap (λ (o : Option ℕ). spot_past R o (holder_pairs R (ring_after sh u))) (sym none)
