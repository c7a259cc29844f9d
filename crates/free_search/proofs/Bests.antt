-- What a second level says of an extent, and what follows for its blocks.
use Rattle.std.proofs.Common.{◌≡◌, ℕ, ◌+◌, ◌-◌, ◌<◌, ◌≤◌, max, true, false, eqb, leb, ltb, List, [], ◌∷◌, Some, refl, sym, ◌∙◌, ap, subst, arith, inl, inr, leb-true, leb-false, ltb-true, ltb-false, eqb-true, true≢false}
use Rattle.seg_words.proofs.Lemmas.{cond-false, cases_Bool, or_cases}
use Rattle.seg_words.specs.Types.{Shape, is_shape}
use Rattle.redo_model.specs.Records.{Record}
use Rattle.redo_model.specs.Model.{Extent, extents_of, extent_at, extent_data, block_in, code_of, good_code, best_of, best_of_found, best_in_l1, group_start, l2_of, AreAllowed, IsLawful, IsTable}
use Rattle.redo_laws.specs.Among.{is_in}
use Rattle.redo_laws.proofs.numbers.Bounds.{limits}
use Rattle.space_laws.proofs.ExtentsLaw.{each_block_has_one_role}
use Rattle.mark_laws.specs.Searches.{Sought}
use Rattle.page_set.specs.declared.page.Page.{Page}
use Rattle.page_set.specs.Folded.{page_of}
use Rattle.page_says.specs.Levels.{SaysSecond}
use Rattle.page_says.proofs.SecondLevel.{second_levels_say}
use Rattle.store_core.specs.Store.{has_page}
use Rattle.store_read.proofs.Truth.{page_when}
use Rattle.free_search.specs.declared.look.Wanted.TheVariants as wanted
use Rattle.free_search.specs.Codes.{LacksGood, LacksGoodNth, has_code}
use Rattle.free_search.specs.Looks.{NoneIn, NoneInRun}
use Rattle.free_search.proofs.Codes.{fails_code}

-- the page of the second level that covers extents from the one with index start on

pub second_says : (sh : Shape) (R : List Record) (o start d : ℕ) (e : Extent) (p : Page) → is_shape sh ≡ true → IsLawful sh R → group_start start ≡ start → extent_at (extents_of R o) start ≡ Some e → d ≡ l2_of sh (extents_of R o) start → p ≡ page_of sh R d → SaysSecond sh R o start p
second_says sh R o start d e p s h g at is page =
    subst (λ n. SaysSecond sh R o n p) g
    (subst (SaysSecond sh R o (group_start start)) (sym (page ∙ ap (page_of sh R) is)) (second_levels_say sh R o start e s h.allowed (ap (extent_at (extents_of R o)) g ∙ at)))

pub second_has : (sh : Shape) (R : List Record) (o start d : ℕ) (e : Extent) → is_shape sh ≡ true → IsLawful sh R → IsTable R o → group_start start ≡ start → extent_at (extents_of R o) start ≡ Some e → d ≡ l2_of sh (extents_of R o) start → has_page sh d ≡ true
second_has sh R o start d e s h t g at is =
    let roles = each_block_has_one_role sh R s h.allowed in
    let w = roles.within o (group_start start) 1 (l2_of sh (extents_of R o) start) (roles.l2 o start e t (ap (extent_at (extents_of R o)) g ∙ at)) in
    let l = w.0 in
    subst (λ x. has_page sh x ≡ true) (sym is) (page_when sh (l2_of sh (extents_of R o) start) (omega (arith, l)) w.1)

pub second_is : (k sh : Shape) (R : List Record) (o start d : ℕ) → k ≡ sh → group_start start ≡ start → d ≡ block_in k (extent_at (extents_of R o) start) 1 → d ≡ l2_of sh (extents_of R o) start
second_is k sh R o start d e g is = is ∙ ap (λ n. block_in k (extent_at (extents_of R o) n) 1) (sym g) ∙ ap (λ (x : Shape). l2_of x (extents_of R o) start) e

pub second_small : (k : Shape) → is_shape k ≡ true → 1 < k.extent
second_small k s = (let l = (limits k s).extent_from in omega (arith, l))

-- extents without a good best, by their numbers and by their indices

pub lacks_none : (sh : Shape) (R : List Record) (o start from : ℕ) → LacksGoodNth sh R o start from from
lacks_none sh R o start from = λ k l u. absurd (omega (arith, l, u))

pub lacks_next : (sh : Shape) (R : List Record) (o start from n c : ℕ) → LacksGoodNth sh R o start from n → c ≡ best_in_l1 sh R o (start + n) → has_code wanted.Good c ≡ false → LacksGoodNth sh R o start from (n + 1)
lacks_next sh R o start from n c h is f = λ k l u. elim (cases_Bool (ltb k n)) [
  | inl y ↦ h k l (ltb-true k n y)
  | inr m ↦
      let most = ltb-false k n m in
      let same : n ≡ k = omega (arith, most, u) in
      subst (λ (i : ℕ). has_code wanted.Good (best_in_l1 sh R o (start + i)) ≡ false) same (ap (has_code wanted.Good) (sym is) ∙ f)
]

pub lacks_all : (sh : Shape) (R : List Record) (o start from n m : ℕ) → m ≤ n → LacksGoodNth sh R o start from n → LacksGoodNth sh R o start from m
lacks_all sh R o start from n m less h = λ k l u. h k l (omega (arith, u, less))

pub lacks_indexed : (k sh : Shape) (R : List Record) (o start index nth : ℕ) → k ≡ sh → start ≤ index → LacksGoodNth sh R o start (index - start) nth → LacksGood k R o index (start + nth)
lacks_indexed k sh R o start index nth e order h = λ i l u.
    let same : start + (i - start) ≡ i = omega (arith, order, l) in
    subst (λ (n : ℕ). has_code wanted.Good (best_in_l1 k R o n) ≡ false) same
    (subst (λ (x : Shape). has_code wanted.Good (best_in_l1 x R o (start + (i - start))) ≡ false) (sym e) (h (i - start) (omega (arith, order, l)) (omega (arith, order, l, u))))

-- blocks of an extent without a good one

least_best : (sh : Shape) (R : List Record) (bs : List ℕ) (b : ℕ) → is_in b bs ≡ true → good_code (code_of sh R b) ≤ best_of sh R bs
least_best sh R [] b m = absurd (true≢false (sym m))
least_best sh R (c ∷ bs) b m = elim (or_cases (eqb c b) (is_in b bs) m) [
  | inl y ↦ subst (λ (x : ℕ). good_code (code_of sh R x) ≤ max (good_code (code_of sh R c)) (best_of sh R bs)) (eqb-true c b y) (at_left (good_code (code_of sh R c)) (best_of sh R bs))
  | inr z ↦ at_right (good_code (code_of sh R c)) (best_of sh R bs) (good_code (code_of sh R b)) (least_best sh R bs b z)
]
  where
    at_left : (a b : ℕ) → a ≤ max a b
    at_left a b = omega arith

    at_right : (a b n : ℕ) → n ≤ b → n ≤ max a b
    at_right a b n l = omega (arith, l)

not_good : (c n : ℕ) → good_code c ≤ n → n < 2 → leb 2 c ≡ false
not_good c n l u = elim (cases_Bool (leb 2 c)) [
  | inl y ↦
      let k = leb-true 2 c y in
      absurd (elim (cases_Bool (ltb c 2)) [
        | inl z ↦ (let m = ltb-true c 2 z in omega (arith, k, m))
        | inr f ↦ (let same : good_code c ≡ c = cond-false _ _ _ f in omega (arith, same, l, u, k))
      ])
  | inr f ↦ f
]

pub none_good : (sh : Shape) (R : List Record) (q : Sought) (index best : ℕ) (e : Extent) → AreAllowed sh R → extent_at (extents_of R q.obj) index ≡ Some e → best ≡ best_in_l1 sh R q.obj index → has_code wanted.Good best ≡ false → NoneIn sh R q wanted.Good index e
none_good sh R q index best e h at is f = λ b m.
    let same : best ≡ best_of sh R (extent_data sh index e.number) = is ∙ ap (best_of_found sh R index) at in
    let low = leb-false 2 best f in
    fails_code sh R q wanted.Good b h (not_good (code_of sh R b) (best_of sh R (extent_data sh index e.number)) (least_best sh R (extent_data sh index e.number) b m) (omega (arith, same, low)))

pub lacks_wanted : (sh : Shape) (R : List Record) (q : Sought) (from to : ℕ) → AreAllowed sh R → LacksGood sh R q.obj from to → NoneInRun sh R q wanted.Good from to
lacks_wanted sh R q from to h lacks = λ index e at l u. none_good sh R q index (best_in_l1 sh R q.obj index) e h at refl (lacks index l u)
