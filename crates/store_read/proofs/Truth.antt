-- What the pages of a lawful list say, by the laws on them, and that their blocks have pages.
use Rattle.std.proofs.Common.{◌≡◌, ℕ, zero, suc, Bool, ◌+◌, ◌-◌, ◌<◌, ◌≤◌, true, false, not, ◌&&◌, ◌||◌, nat_lt, List, [], ◌∷◌, length, Option, Some, None, refl, sym, ◌∙◌, ap, subst, arith, lt-ltb, ne_eqb}
use Rattle.seg_words.proofs.Lemmas.{and_from, or_left, or_right}
use Rattle.seg_words.specs.Types.{Shape, OWN_BLOCKS, first_block, is_shape}
use Rattle.redo_model.specs.Records.{Record}
use Rattle.redo_model.specs.Model.{Extent, extents_of, extent_at, header_of, IsTable, IsLawful}
use Rattle.redo_laws.proofs.numbers.Bounds.{limits}
use Rattle.space_laws.proofs.ExtentsLaw.{each_block_has_one_role}
use Rattle.mark_laws.proofs.TablesThere.{has_one}
use Rattle.page_set.specs.declared.page.Page.{Page}
use Rattle.page_set.specs.Folded.{page_of}
use Rattle.page_fit.specs.Headers.{SaysHeader}
use Rattle.page_fit.proofs.Headed.{headers_are_stated}
use Rattle.page_fit.proofs.HeaderLaw.{headers_say}
use Rattle.page_says.specs.Levels.{SaysFirst}
use Rattle.page_says.specs.Named.{SaysCatalogue}
use Rattle.page_says.specs.Space.{SaysSpace}
use Rattle.page_says.proofs.FirstLevel.{first_levels_say}
use Rattle.page_says.proofs.NamedLaw.{catalogues_say}
use Rattle.page_says.proofs.SpaceLaw.{spaces_say}
use Rattle.store_core.specs.Store.{has_page}

-- the page of the header
pub header_page : (sh : Shape) (R : List Record) (o : ℕ) → is_shape sh ≡ true → IsLawful sh R → IsTable R o → SaysHeader R o (page_of sh R (header_of sh (extents_of R o)))
header_page sh R o s h t = subst (λ d. SaysHeader R o (page_of sh R d)) (headers_are_stated sh R o h.allowed h.whole t) (headers_say sh R o s h.allowed t)

-- the first extent
first_of : (es : List Extent) → 1 ≤ length es → (e : Extent) × (extent_at es 0 ≡ Some e)
first_of [] l = absurd (omega (arith, l))
first_of (e ∷ es) l = (e, refl)

pub page_when : (sh : Shape) (d : ℕ) → OWN_BLOCKS ≤ d → d < sh.blocks → has_page sh d ≡ true
page_when sh d l u = and_from _ _ (and_from _ _ (lt-ltb d sh.blocks u) (ap not (ne_eqb d 0 (λ e. omega (arith, e, l))))) (or_right (nat_lt d 4) _ (lt-ltb 36 d (omega (arith, l))))

pub header_has : (sh : Shape) (R : List Record) (o : ℕ) → is_shape sh ≡ true → IsLawful sh R → IsTable R o → has_page sh (header_of sh (extents_of R o)) ≡ true
header_has sh R o s h t =
    let roles = each_block_has_one_role sh R s h.allowed in
    let first = first_of (extents_of R o) (has_one sh R o h.allowed h.whole t) in
    let w = roles.within o 0 3 (header_of sh (extents_of R o)) (roles.header o first.0 t first.1) in
    let l = w.0 in
    page_when sh (header_of sh (extents_of R o)) (omega (arith, l)) w.1

pub own_has : (sh : Shape) (d : ℕ) → is_shape sh ≡ true → 1 ≤ d → d < 4 → has_page sh d ≡ true
own_has sh d s l u =
    let lim = limits sh s in
    let all = lim.all in
    and_from _ _ (and_from _ _ (lt-ltb d sh.blocks (omega (arith, all, u))) (ap not (ne_eqb d 0 (λ e. omega (arith, e, l))))) (or_left (nat_lt d 4) _ (lt-ltb d 4 u))

-- what a page of a true store says

pub catalogue_says : (sh : Shape) (R : List Record) (p : Page) → is_shape sh ≡ true → IsLawful sh R → p ≡ page_of sh R 2 → SaysCatalogue sh R p
catalogue_says sh R p s h e = subst (SaysCatalogue sh R) (sym e) (catalogues_say sh R s h.allowed)

pub space_says : (sh : Shape) (R : List Record) (p : Page) → is_shape sh ≡ true → IsLawful sh R → p ≡ page_of sh R 3 → SaysSpace R p
space_says sh R p s h e = subst (SaysSpace R) (sym e) (spaces_say sh R s h.allowed)

pub header_says : (sh : Shape) (R : List Record) (o d : ℕ) (p : Page) → is_shape sh ≡ true → IsLawful sh R → IsTable R o → d ≡ header_of sh (extents_of R o) → p ≡ page_of sh R d → SaysHeader R o p
header_says sh R o d p s h t at e = subst (SaysHeader R o) (sym (e ∙ ap (page_of sh R) at)) (header_page sh R o s h t)

pub header_at_has : (sh : Shape) (R : List Record) (o d : ℕ) → is_shape sh ≡ true → IsLawful sh R → IsTable R o → d ≡ header_of sh (extents_of R o) → has_page sh d ≡ true
header_at_has sh R o d s h t at = subst (λ x. has_page sh x ≡ true) (sym at) (header_has sh R o s h t)

pub catalogue_has : (sh : Shape) → is_shape sh ≡ true → has_page sh 2 ≡ true
catalogue_has sh s = own_has sh 2 s (omega arith) (omega arith)

pub space_has : (sh : Shape) → is_shape sh ≡ true → has_page sh 3 ≡ true
space_has sh s = own_has sh 3 s (omega arith) (omega arith)

-- the first level of an extent

pub first_says : (sh : Shape) (R : List Record) (o index d : ℕ) (e : Extent) (p : Page) → is_shape sh ≡ true → IsLawful sh R → extent_at (extents_of R o) index ≡ Some e → d ≡ first_block sh e.number → p ≡ page_of sh R d → SaysFirst sh R index e p
first_says sh R o index d e p s h at is page = subst (SaysFirst sh R index e) (sym (page ∙ ap (page_of sh R) is)) (first_levels_say sh R o index e s h.allowed at)

pub first_has : (sh : Shape) (R : List Record) (o index d : ℕ) (e : Extent) → is_shape sh ≡ true → IsLawful sh R → IsTable R o → extent_at (extents_of R o) index ≡ Some e → d ≡ first_block sh e.number → has_page sh d ≡ true
first_has sh R o index d e s h t at is =
    let roles = each_block_has_one_role sh R s h.allowed in
    let w = roles.within o index 0 (first_block sh e.number) (roles.l1 o index e t at) in
    let l = w.0 in
    subst (λ x. has_page sh x ≡ true) (sym is) (page_when sh (first_block sh e.number) (omega (arith, l)) w.1)
