-- What a third level says of a group of extents, and what follows for their blocks.
use Rattle.std.proofs.Common.{◌≡◌, ℕ, zero, suc, ◌+◌, ◌<◌, ◌≤◌, max, true, false, eqb, leb, List, [], ◌∷◌, length, Some, None, Option, refl, sym, ◌∙◌, ap, subst, arith, inl, inr, eq-eqb, leb-true, leb-false}
use Rattle.seg_words.proofs.Lemmas.{cond-true, cases_Bool}
use Rattle.seg_words.specs.Types.{Shape, is_shape}
use Rattle.redo_model.specs.Records.{Record}
use Rattle.redo_model.specs.Model.{Extent, extents_of, extent_at, block_in, best_in_extent, best_in_group, best_in_l1, best_in_l2, best_of_found, group_start, l3_of, AreAllowed, IsLawful, IsTable}
use Rattle.redo_laws.proofs.numbers.Bounds.{limits}
use Rattle.space_laws.proofs.ExtentsLaw.{each_block_has_one_role}
use Rattle.mark_laws.specs.Searches.{Sought}
use Rattle.mark_laws.proofs.ThereLaw.{tables_have_extents}
use Rattle.page_set.specs.declared.page.Page.{Page}
use Rattle.page_set.specs.Folded.{page_of}
use Rattle.page_says.specs.Levels.{SaysThird}
use Rattle.page_says.proofs.ThirdLevel.{third_levels_say}
use Rattle.segment_read.specs.declared.segment.Segment.{Segment}
use Rattle.store_core.specs.Store.{has_page}
use Rattle.store_read.proofs.Truth.{page_when}
use Rattle.free_search.specs.declared.look.Wanted.TheVariants as wanted
use Rattle.free_search.specs.Codes.{has_code}
use Rattle.free_search.specs.Looks.{NoneInGroup}
use Rattle.free_search.proofs.Known.{FixedSegment}
use Rattle.free_search.proofs.Extents.{extent_there}
use Rattle.free_search.proofs.Bests.{none_good}

-- the page of a third level

pub third_says : (sh : Shape) (R : List Record) (o d : ℕ) (e : Extent) (p : Page) → is_shape sh ≡ true → IsLawful sh R → extent_at (extents_of R o) 0 ≡ Some e → d ≡ l3_of sh (extents_of R o) → p ≡ page_of sh R d → SaysThird sh R o p
third_says sh R o d e p s h at is page = subst (SaysThird sh R o) (sym (page ∙ ap (page_of sh R) is)) (third_levels_say sh R o e s h.allowed at)

pub third_has : (sh : Shape) (R : List Record) (o d : ℕ) (e : Extent) → is_shape sh ≡ true → IsLawful sh R → IsTable R o → extent_at (extents_of R o) 0 ≡ Some e → d ≡ l3_of sh (extents_of R o) → has_page sh d ≡ true
third_has sh R o d e s h t at is =
    let roles = each_block_has_one_role sh R s h.allowed in
    let w = roles.within o 0 2 (l3_of sh (extents_of R o)) (roles.l3 o e t at) in
    let l = w.0 in
    subst (λ x. has_page sh x ≡ true) (sym is) (page_when sh (l3_of sh (extents_of R o)) (omega (arith, l)) w.1)

-- its place

pub third_is : (k sh : Shape) (R : List Record) (o d : ℕ) → k ≡ sh → d ≡ block_in k (extent_at (extents_of R o) 0) 2 → d ≡ l3_of sh (extents_of R o)
third_is k sh R o d e is = is ∙ ap (λ (x : Shape). l3_of x (extents_of R o)) e

pub has_extents : (R : List Record) (k : Shape) (s : Segment) → FixedSegment R k s → 0 < length (extents_of R s.obj)
has_extents R k s f = (let l = (tables_have_extents k R s.obj f.lawful f.table).one in omega (arith, l))

pub first_extent : (R : List Record) (k : Shape) (s : Segment) → FixedSegment R k s → (e : Extent) × (extent_at (extents_of R s.obj) 0 ≡ Some e)
first_extent R k s f = extent_there (extents_of R s.obj) 0 (has_extents R k s f)

pub third_small : (k : Shape) → is_shape k ≡ true → 2 < k.extent
third_small k s = (let l = (limits k s).extent_from in omega (arith, l))

pub group_best : (k sh : Shape) (R : List Record) (o start : ℕ) → k ≡ sh → best_in_l2 sh R o start ≡ best_in_l2 k R o start
group_best k sh R o start e = ap (λ (x : Shape). best_in_l2 x R o start) (sym e)

-- each extent of a group is no better than the group

least_group : (sh : Shape) (R : List Record) (start i : ℕ) (es : List Extent) (j : ℕ) (e : Extent) → extent_at es j ≡ Some e → group_start (i + j) ≡ start → best_in_extent sh R (i + j) e.number ≤ best_in_group sh R start i es
least_group sh R start i [] j e at g = absurd (let z : ◌≡◌ {A = Option Extent} None (Some e) = at in cc)
least_group sh R start i (f ∷ es) zero e at g =
    let same : f ≡ e = (let z : ◌≡◌ {A = Option Extent} (Some f) (Some e) = at in cc) in
    let plain : i + 0 ≡ i = omega arith in
    let own = cond-true (eqb (group_start i) start) (best_in_extent sh R i f.number) 0 (eq-eqb (group_start i) start (ap group_start (sym plain) ∙ g)) in
    let best : best_in_extent sh R (i + 0) e.number ≡ best_in_extent sh R i f.number = ap (λ n. best_in_extent sh R n e.number) plain ∙ ap (λ (x : Extent). best_in_extent sh R i x.number) (sym same) in
    at_left _ _ (best_in_group sh R start (suc i) es) (best ∙ sym own)
  where
    at_left : (n a b : ℕ) → n ≡ a → n ≤ max a b
    at_left n a b e = omega (arith, e)
least_group sh R start i (f ∷ es) (suc j) e at g =
    let moved : suc i + j ≡ i + suc j = omega arith in
    at_right _ _ _ (subst (λ n. best_in_extent sh R n e.number ≤ best_in_group sh R start (suc i) es) moved (least_group sh R start (suc i) es j e at (ap group_start moved ∙ g)))
  where
    at_right : (a b n : ℕ) → n ≤ b → n ≤ max a b
    at_right a b n l = omega (arith, l)

extent_least : (sh : Shape) (R : List Record) (o start index : ℕ) (e : Extent) → extent_at (extents_of R o) index ≡ Some e → group_start index ≡ start → best_in_l1 sh R o index ≤ best_in_l2 sh R o start
extent_least sh R o start index e at g =
    let plain : 0 + index ≡ index = omega arith in
    let l : best_in_extent sh R (0 + index) e.number ≤ best_in_l2 sh R o start = least_group sh R start 0 (extents_of R o) index e at (ap group_start plain ∙ g) in
    subst (λ n. n ≤ best_in_l2 sh R o start) (ap (λ n. best_in_extent sh R n e.number) plain ∙ sym (ap (best_of_found sh R index) at)) l

lower_code : (a b : ℕ) → a ≤ b → leb 2 b ≡ false → leb 2 a ≡ false
lower_code a b l f = elim (cases_Bool (leb 2 a)) [
  | inl y ↦ (let k = leb-true 2 a y in let u = leb-false 2 b f in absurd (omega (arith, l, k, u)))
  | inr n ↦ n
]

pub group_none_good : (sh : Shape) (R : List Record) (q : Sought) (start best : ℕ) → AreAllowed sh R → best ≡ best_in_l2 sh R q.obj start → has_code wanted.Good best ≡ false → NoneInGroup sh R q wanted.Good start
group_none_good sh R q start best h is f = λ index e at g.
    none_good sh R q index (best_in_l1 sh R q.obj index) e h at refl (lower_code (best_in_l1 sh R q.obj index) best (subst (λ n. best_in_l1 sh R q.obj index ≤ n) (sym is) (extent_least sh R q.obj start index e at g)) f)
