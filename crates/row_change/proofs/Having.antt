-- The pages that a search reads: that they are there, and what they say.
use Rattle.std.proofs.Common.{◌≡◌, ℕ, zero, suc, ◌+◌, ◌<◌, true, List, [], ◌∷◌, length, slice_get, Option, Some, None, refl, sym, ◌∙◌, ap, subst, arith}
use Rattle.seg_words.specs.Types.{Shape, first_block, is_shape}
use Rattle.redo_model.specs.Records.{Record}
use Rattle.redo_model.specs.Model.{Extent, extents_of, extent_at, data_blocks, IsTable, IsLawful, AreAllowed}
use Rattle.redo_laws.proofs.numbers.Bounds.{limits}
use Rattle.redo_laws.proofs.space.ApartLaw.{extents_are_apart}
use Rattle.redo_laws.proofs.space.Places.{contains_in}
use Rattle.space_laws.proofs.ExtentsLaw.{each_block_has_one_role}
use Rattle.mark_laws.proofs.ThereLaw.{tables_have_extents}
use Rattle.data_places.specs.Places.{block_or_none}
use Rattle.page_set.specs.declared.page.Page.{Page}
use Rattle.page_set.specs.Folded.{page_of}
use Rattle.page_fit.specs.Headers.{SaysHeader}
use Rattle.page_says.specs.Levels.{SaysFirst}
use Rattle.page_says.proofs.FirstLevel.{first_levels_say}
use Rattle.segment_read.specs.Segments.{number_at}
use Rattle.mark_move.proofs.Drafting.{block_is, table_has}
use Rattle.store_read.proofs.Truth.{header_says, header_at_has}
use Rattle.store_core.specs.Store.{has_page}
use Rattle.store_core.proofs.UndoLent.{page_when}
use Rattle.place_laws.proofs.LocatedLaw.{in_at}
use Rattle.row_change.specs.declared.sight.Search.{Search}
use Rattle.row_change.specs.Locating.{IsSearch}

-- blocks that have pages

pub data_has : (sh : Shape) (R : List Record) (o i b : ℕ) (q : Search) → IsSearch sh R o q → slice_get (data_blocks q.shape R o) i ≡ Some b → has_page sh b ≡ true
data_has sh R o i b q h at =
    let apart = (extents_are_apart q.shape R h.lawful.allowed).blocks in
    let has = contains_in (data_blocks q.shape R o) b (in_at (data_blocks q.shape R o) b i at) in
    let from = apart.from o b h.there has in
    subst (λ (z : Shape). has_page z b ≡ true) h.shape_is (page_when q.shape b (omega (arith, from)) (apart.to o b h.there has))

pub header_has : (sh : Shape) (R : List Record) (o : ℕ) (q : Search) → IsSearch sh R o q → has_page sh q.segment.header ≡ true
header_has sh R o q h = subst (λ (z : Shape). has_page z q.segment.header ≡ true) h.shape_is (header_at_has q.shape R o q.segment.header h.within h.lawful h.there h.segment_is.header)

pub first_has : (sh : Shape) (R : List Record) (o index d : ℕ) (e : Extent) → is_shape sh ≡ true → AreAllowed sh R → IsTable R o → extent_at (extents_of R o) index ≡ Some e → d ≡ first_block sh e.number → has_page sh d ≡ true
first_has sh R o index d e s h t at is =
    let roles = each_block_has_one_role sh R s h in
    let w = roles.within o index 0 (first_block sh e.number) (roles.l1 o index e t at) in
    let from = w.0 in
    subst (λ z. has_page sh z ≡ true) (sym is) (page_when sh (first_block sh e.number) (omega (arith, from)) w.1)

-- what pages say

pub page_same : (sh : Shape) (R : List Record) (o d : ℕ) (q : Search) (p : Page) → IsSearch sh R o q → p ≡ page_of sh R d → p ≡ page_of q.shape R d
page_same sh R o d q p h e = e ∙ ap (λ (z : Shape). page_of z R d) (sym h.shape_is)

pub header_told : (sh : Shape) (R : List Record) (o : ℕ) (q : Search) (p : Page) → IsSearch sh R o q → p ≡ page_of sh R q.segment.header → SaysHeader R o p
header_told sh R o q p h e = header_says q.shape R o q.segment.header p h.within h.lawful h.there h.segment_is.header (page_same sh R o q.segment.header q p h e)

pub first_told : (sh : Shape) (R : List Record) (o index d : ℕ) (e : Extent) (p : Page) → is_shape sh ≡ true → IsLawful sh R → extent_at (extents_of R o) index ≡ Some e → d ≡ first_block sh e.number → p ≡ page_of sh R d → SaysFirst sh R index e p
first_told sh R o index d e p s h at is same = subst (SaysFirst sh R index e) (sym (same ∙ ap (page_of sh R) is)) (first_levels_say sh R o index e s h.allowed at)

-- blocks of an extent

number_of : (es : List Extent) (index : ℕ) (e : Extent) → extent_at es index ≡ Some e → number_at es index ≡ Some e.number
number_of es index e at = rw at refl

same_number : (x y : ℕ) (o : Option ℕ) → o ≡ Some x → o ≡ Some y → x ≡ y
same_number x y o p q = let z : ◌≡◌ {A = Option ℕ} (Some x) (Some y) = sym p ∙ q in cc

pub block_told : (sh : Shape) (R : List Record) (o index n x d : ℕ) (e : Extent) → number_at (extents_of R o) index ≡ Some x → extent_at (extents_of R o) index ≡ Some e → ◌≡◌ {A = Option ℕ} (Some d) (block_or_none sh x n) → d ≡ first_block sh e.number + n
block_told sh R o index n x d e told at is = block_is sh x n d (sym is) ∙ ap (λ z. first_block sh z + n) (same_number x e.number (number_at (extents_of R o) index) told (number_of (extents_of R o) index e at))

pub block_there : (sh : Shape) (R : List Record) (o index n x : ℕ) → IsLawful sh R → IsTable R o → number_at (extents_of R o) index ≡ Some x → n < sh.extent → ◌≡◌ {A = Option ℕ} None (block_or_none sh x n) → ⊥
block_there sh R o index n x h t told l is = table_has sh R o index x n (tables_have_extents sh R o h t) told l (sym is)

pub at_within : (es : List Extent) (i : ℕ) (e : Extent) → extent_at es i ≡ Some e → i < length es
at_within [] i e a = absurd (let x : ◌≡◌ {A = Option Extent} None (Some e) = a in cc)
at_within (x ∷ es) zero e a = omega arith
at_within (x ∷ es) (suc i) e a = (let k = at_within es i e a in omega (arith, k))

pub some_extent : (sh : Shape) (R : List Record) (o : ℕ) (q : Search) → IsSearch sh R o q → 0 < q.shape.extent
some_extent sh R o q h = let l = limits q.shape h.within in let m = l.extent_from in omega (arith, m)
