-- From the bits of the space bitmap to the free extents of the list.
use Rattle.std.proofs.Common.{◌≡◌, ◌↔◌, ◌⊎◌, ℕ, ◌<◌, ◌≤◌, true, false, not, leb, leb-true, leb-false, List, Option, Some, None, sym, ◌∙◌, ap, subst, arith, true≢false, inl, inr}
use Rattle.seg_words.proofs.Lemmas.{and_from, and_parts, cases_Bool, not-true}
use Rattle.seg_words.specs.Types.{Shape, is_extent, is_shape, MOST_TABLES}
use Rattle.redo_model.specs.Records.{Record}
use Rattle.redo_model.specs.Model.{is_taken, is_free_extent}
use Rattle.redo_laws.proofs.lists.Bools.{off}
use Rattle.segment_blocks.specs.Types as blocks
use Rattle.page_set.specs.declared.page.Page.{Page}
use Rattle.page_set.specs.declared.page.Page.TheVariants as pages
use Rattle.page_says.specs.Space.{SpaceSays, SaysSpace}
use Rattle.mark_laws.specs.Movements.{least_free}
use Rattle.mark_laws.proofs.Numbers.{least_free_found, least_free_empty}

-- the store has this many whole extents
abbrev pub Counts : Shape → ℕ → Type 0
Counts sh n = (x : ℕ) → is_extent sh x ≡ true ↔ x < n

free_bit : (sh : Shape) (R : List Record) (s : blocks.Space) (n x : ℕ) → Counts sh n → n ≤ 2043 → SpaceSays R s → x < n → blocks.is_used s.bits x ≡ false → is_free_extent sh R x ≡ true
free_bit sh R s n x c most says l f = and_from (is_extent sh x) (not (is_taken R MOST_TABLES x)) ((c x).1 l) (ap not (sym (says.used x (omega (arith, most, l))) ∙ f))

used_bit : (sh : Shape) (R : List Record) (s : blocks.Space) (n x : ℕ) → Counts sh n → n ≤ 2043 → SpaceSays R s → x < n → blocks.is_used s.bits x ≡ true → is_free_extent sh R x ≡ false
used_bit sh R s n x c most says l u = off (is_free_extent sh R x) (λ y.
    let p = and_parts (is_extent sh x) (not (is_taken R MOST_TABLES x)) y in
    true≢false (sym (sym (says.used x (omega (arith, most, l))) ∙ u) ∙ not-true (is_taken R MOST_TABLES x) p.1))

past_bit : (sh : Shape) (R : List Record) (n x : ℕ) → Counts sh n → n ≤ x → is_free_extent sh R x ≡ false
past_bit sh R n x c l = off (is_free_extent sh R x) (λ y. let k = (c x).0 (and_parts (is_extent sh x) (not (is_taken R MOST_TABLES x)) y).0 in absurd (omega (arith, k, l)))

cases_below : (x n : ℕ) → (x < n) ⊎ (n ≤ x)
cases_below x n = elim (cases_Bool (leb n x)) [ inl y ↦ inr (leb-true n x y) | inr f ↦ inl (leb-false n x f) ]

least_of : (sh : Shape) (R : List Record) (s : blocks.Space) (n : ℕ) (found : Option ℕ) → is_shape sh ≡ true → Counts sh n → n ≤ 2043 → SpaceSays R s → blocks.Finds s.bits n found → found ≡ least_free sh R
least_of sh R s n None shape c most says f = sym (least_free_empty sh R (λ x. elim (cases_below x n) [ inl l ↦ used_bit sh R s n x c most says l (f x l) | inr k ↦ past_bit sh R n x c k ]))
least_of sh R s n (Some x) shape c most says f = sym (least_free_found sh R x shape (record {
  free = free_bit sh R s n x c most says f.within f.free;
  least = λ y l. (let w = f.within in used_bit sh R s n y c most says (omega (arith, l, w)) (f.before y (omega (arith, l))));
}))

pub least_says : (sh : Shape) (R : List Record) (p : Page) (s : blocks.Space) (n : ℕ) (found : Option ℕ) → is_shape sh ≡ true → p ≡ pages.Space s → Counts sh n → n ≤ 2043 → blocks.Finds s.bits n found → SaysSpace R p → found ≡ least_free sh R
least_says sh R p s n found shape is c most f h = least_of sh R s n found shape c most (subst (SaysSpace R) is h) f
