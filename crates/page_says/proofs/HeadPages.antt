-- The pages at the first blocks of an extent of a table: of which kind they are, and which blocks these are not.
use Rattle.std.proofs.Common.{◌≡◌, ◌⊎◌, ℕ, zero, suc, ◌+◌, ◌<◌, ◌≤◌, true, false, cond, eqb, List, [], ◌∷◌, ◌++◌, length, replicate, slice_index, Option, Some, None, refl, sym, ◌∙◌, ap, subst, arith, inl, inr}
use Rattle.std.proofs.lemmas.Bool.{eqb-true, cond-true}
use Rattle.seg_words.specs.Types.{LEAST_EXTENT_BLOCKS}
use Rattle.seg_base.specs.declared.shape.Shape.{Shape}
use Rattle.seg_base.specs.Places.{first_block, head_blocks, is_shape}
use Rattle.bitmap_block.specs.Pages.{ExtentMap, Summary}
use Rattle.redo_record.specs.declared.record.Record.{Record}
use Rattle.redo_record.specs.declared.record.Record.TheVariants.{Extend}
use Rattle.redo_record.specs.declared.space.ExtendRecord.{ExtendRecord}
use Rattle.redo_model.specs.Segments.{Extent, extents_of, data_blocks, extent_at, block_in, group_start}
use Rattle.redo_model.specs.Lawful.{AreAllowed}
use Rattle.redo_laws.specs.Among.{is_in}
use Rattle.redo_laws.proofs.numbers.Bounds.{Limits, limits}
use Rattle.space_laws.proofs.ExtentsLaw.{data_at, head_few}
use Rattle.sort_laws.specs.Sorts.{First, Second, Third}
use Rattle.sort_laws.proofs.SortsLaw.{sorts_are_made}
use Rattle.page_set.specs.declared.page.Page.{Page}
use Rattle.page_set.specs.declared.page.Page.TheVariants as pages
use Rattle.page_set.specs.Among.{is_among}
use Rattle.page_set.specs.Changes.{changed_page}
use Rattle.page_set.specs.Folded.{touched, first_of, page_of}
use Rattle.page_fit.proofs.Plain.{head_plain}
use Rattle.page_fit.proofs.HeaderApart.{one_place, first_is}
use Rattle.page_fit.proofs.FitLaw.{is_first, is_second, is_third, the_sort}

-- ---- kinds

pub first_page : (sh : Shape) (R : List Record) (o i : ℕ) (e : Extent) → is_shape sh ≡ true → AreAllowed sh R → extent_at (extents_of R o) i ≡ Some e → (m : ExtentMap) × (page_of sh R (first_block sh e.number) ≡ pages.First m)
first_page sh R o i e s h at =
    let d : ℕ = first_block sh e.number in
    is_first (page_of sh R d) (the_sort sh R d First h (head_plain sh R e.number 0 d h (limits sh s) (omega arith) (omega arith)) ((sorts_are_made sh R s h).first o i e at))

pub second_page : (sh : Shape) (R : List Record) (o i : ℕ) (e : Extent) → is_shape sh ≡ true → AreAllowed sh R → extent_at (extents_of R o) i ≡ Some e → group_start i ≡ i → (m : Summary) × (page_of sh R (first_block sh e.number + 1) ≡ pages.Second m)
second_page sh R o i e s h at g =
    let d : ℕ = first_block sh e.number + 1 in
    is_second (page_of sh R d) (the_sort sh R d Second h (head_plain sh R e.number 1 d h (limits sh s) (omega arith) refl) ((sorts_are_made sh R s h).second o i e at g))

pub third_page : (sh : Shape) (R : List Record) (o : ℕ) (e : Extent) → is_shape sh ≡ true → AreAllowed sh R → extent_at (extents_of R o) 0 ≡ Some e → (m : Summary) × (page_of sh R (first_block sh e.number + 2) ≡ pages.Third m)
third_page sh R o e s h at =
    let d : ℕ = first_block sh e.number + 2 in
    is_third (page_of sh R d) (the_sort sh R d Third h (head_plain sh R e.number 2 d h (limits sh s) (omega arith) refl) ((sorts_are_made sh R s h).third o e at))

-- ---- pages after a record

pub touched_page : (sh : Shape) (R : List Record) (r : Record) (d : ℕ) (p : Page) → is_among (touched sh r) d ≡ true → page_of sh R d ≡ p → page_of sh (r ∷ R) d ≡ changed_page r (suc (length R)) p
touched_page sh R r d p m e = cond-true (is_among (touched sh r) d) (changed_page r (suc (length R)) (page_of sh R d)) (page_of sh R d) m ∙ ap (changed_page r (suc (length R))) e

-- what the changed page has and the old one has, the page after the record has
pub either_page : (P : Page → Type 0) (sh : Shape) (R : List Record) (r : Record) (d : ℕ) (p : Page) → page_of sh R d ≡ p → P (changed_page r (suc (length R)) p) → P p → P (page_of sh (r ∷ R) d)
either_page P sh R r d p e f g =
    subst (λ (q : Page). P (cond (is_among (touched sh r) d) (changed_page r (suc (length R)) q) q)) (sym e)
    (elim (is_among (touched sh r) d) as (λ v. P (cond v (changed_page r (suc (length R)) p) p)) [ true ↦ f | false ↦ g ])

-- ---- blocks

-- the nth block of extent x isn't the mth one of any
pub not_block : (sh : Shape) (x n m d b : ℕ) (o : Option Extent) → Limits sh → n < LEAST_EXTENT_BLOCKS → m < LEAST_EXTENT_BLOCKS → (n ≡ m → ⊥) → d ≡ first_block sh x + n → b ≡ block_in sh o m → d ≡ b → ⊥
not_block sh x n m d b None l ln lm ne is at e = omega (arith, is, at, e)
not_block sh x n m d b (Some y) l ln lm ne is at e = ne ((one_place sh x y.number n m l ln lm (sym is ∙ e ∙ at)).1)

-- where a data block of table o stands
pub record Standing (sh : Shape) (R : List Record) (o b : ℕ) : Type 0 where
  pub index : ℕ
  pub extent : Extent
  pub at : extent_at (extents_of R o) index ≡ Some extent
  pub from : first_block sh extent.number + head_blocks index ≤ b
  pub past : first_block sh extent.number < b
  pub to : b < first_block sh extent.number + sh.extent
  pub first : first_of sh b ≡ first_block sh extent.number

pub stands : (sh : Shape) (R : List Record) (o b : ℕ) → Limits sh → is_in b (data_blocks sh R o) ≡ true → Standing sh R o b
stands sh R o b l here =
    let y = data_at sh 0 (extents_of R o) b here in
    let from = y.from in
    let least = (head_few (0 + y.index)).0 in
    let past : first_block sh y.extent.number < b = omega (arith, from, least) in
    record {
      index = y.index;
      extent = y.extent;
      at = y.at;
      from = subst (λ (n : ℕ). first_block sh y.extent.number + head_blocks n ≤ b) (let z : 0 + y.index ≡ y.index = omega arith in z) y.from;
      past = past;
      to = y.to;
      first = first_is sh y.extent.number b l.extent_from (omega (arith, past)) y.to;
    }

-- ---- extents

at_end : (es : List Extent) (x : Extent) (i : ℕ) (e : Extent) → extent_at (es ++ x ∷ []) i ≡ Some e → (extent_at es i ≡ Some e) ⊎ ((i ≡ length es) × (x ≡ e))
at_end [] x zero e h = inr (refl, (let y : ◌≡◌ {A = Option Extent} (Some x) (Some e) = h in cc))
at_end [] x (suc i) e h = absurd (let y : ◌≡◌ {A = Option Extent} None (Some e) = h in cc)
at_end (f ∷ es) x zero e h = inl h
at_end (f ∷ es) x (suc i) e h = elim (at_end es x i e h) [ inl y ↦ inl y | inr y ↦ inr (ap (λ n. suc n) y.0, y.1) ]

abbrev pub new_extent : List Record → ExtendRecord → Extent
new_extent R x = record { number = x.extent; incarnation = suc (length R) }

-- an extent after an Extend was there before, or is the new one
pub extend_at : (R : List Record) (x : ExtendRecord) (o i : ℕ) (e : Extent) → extent_at (extents_of (Extend x ∷ R) o) i ≡ Some e
    → (extent_at (extents_of R o) i ≡ Some e) ⊎ ((x.obj ≡ o) × (i ≡ length (extents_of R o)) × (new_extent R x ≡ e))
extend_at R x o i e h =
    (elim (eqb x.obj o) as (λ v. eqb x.obj o ≡ v → extent_at (cond v (extents_of R o ++ new_extent R x ∷ []) (extents_of R o)) i ≡ Some e
    → (extent_at (extents_of R o) i ≡ Some e) ⊎ ((x.obj ≡ o) × (i ≡ length (extents_of R o)) × (new_extent R x ≡ e))) [
      | true ↦ λ y k. elim (at_end (extents_of R o) (new_extent R x) i e k) [ inl z ↦ inl z | inr z ↦ inr (eqb-true x.obj o y, z.0, z.1) ]
      | false ↦ λ y k. inl k
    ]) refl h

pub zero_at : (n i : ℕ) → slice_index (replicate n 0) i ≡ 0
zero_at zero i = refl
zero_at (suc n) zero = refl
zero_at (suc n) (suc i) = zero_at n i
