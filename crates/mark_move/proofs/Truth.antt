-- What the pages that a movement of the marks is drafted from say of a lawful list, and that the records keep it lawful.
use Rattle.std.proofs.Common.{◌≡◌, ℕ, zero, suc, ◌<◌, Bool, true, not, List, [], ◌∷◌, length, Option, Some, None, sym, ◌∙◌, ap, subst, arith}
use Rattle.seg_words.proofs.Lemmas.{and_parts}
use Rattle.seg_words.specs.Types.{Shape, is_shape, is_extent, MOST_TABLES}
use Rattle.redo_model.specs.Records.{Record, Movement}
use Rattle.redo_model.specs.Model.{Extent, extents_of, extent_at, header_of, index_of, is_taken, IsTable, IsLawful}
use Rattle.mark_laws.specs.declared.step.MarkStep.{MarkStep}
use Rattle.mark_laws.specs.declared.step.MarkStep.TheVariants as step
use Rattle.mark_laws.specs.Movements.{next_mark}
use Rattle.mark_laws.specs.Drafts.{mark_record, drafted_movement}
use Rattle.mark_laws.specs.There.{HasExtents}
use Rattle.mark_laws.proofs.FormatBests.{formatted_next}
use Rattle.mark_laws.proofs.MovementsLaw.{next_marks_mean}
use Rattle.mark_laws.proofs.MovesLaw.{marks_are_allowed, movements_are_allowed}
use Rattle.mark_laws.proofs.ThereLaw.{tables_have_extents}
use Rattle.page_set.specs.declared.page.Page.{Page}
use Rattle.page_set.specs.Folded.{page_of}
use Rattle.page_fit.specs.Headers.{SaysHeader}
use Rattle.store_core.specs.Store.{has_page}
use Rattle.segment_read.specs.declared.segment.Segment.{Segment}
use Rattle.segment_read.specs.Segments.{IsSegment}
use Rattle.store_read.proofs.Truth.{header_says, header_at_has}

-- the header of a segment, by a shape that is the store's
pub segment_says : (sh sh' : Shape) (R : List Record) (o d : ℕ) (p : Page) → is_shape sh' ≡ true → IsLawful sh' R → IsTable R o → sh ≡ sh' → d ≡ header_of sh (extents_of R o) → p ≡ page_of sh' R d → SaysHeader R o p
segment_says sh sh' R o d p s h t e at is = header_says sh' R o d p s h t (subst (λ (z : Shape). d ≡ header_of z (extents_of R o)) e at) is

pub segment_has : (sh sh' : Shape) (R : List Record) (o d : ℕ) → is_shape sh' ≡ true → IsLawful sh' R → IsTable R o → sh ≡ sh' → d ≡ header_of sh (extents_of R o) → has_page sh' d ≡ true
segment_has sh sh' R o d s h t e at = header_at_has sh' R o d s h t (subst (λ (z : Shape). d ≡ header_of z (extents_of R o)) e at)

pub segment_extents : (sh sh' : Shape) (R : List Record) (o : ℕ) → IsLawful sh' R → IsTable R o → sh ≡ sh' → HasExtents sh R o
segment_extents sh sh' R o h t e = subst (λ (z : Shape). HasExtents z R o) (sym e) (tables_have_extents sh' R o h t)

-- a block that is formatted next stands in an extent of the table
pub index_within : (sh : Shape) (R : List Record) (o b : ℕ) → is_shape sh ≡ true → IsLawful sh R → IsTable R o → next_mark sh R o ≡ Some (step.Format b) → index_of sh (extents_of R o) b < length (extents_of R o)
index_within sh R o b s h t m =
    let first = (next_marks_mean sh R o s h.allowed t).is (step.Format b) m in
    let stands = formatted_next sh R o b h.allowed t first in
    let found = at_within (extents_of R o) stands.index stands.extent stands.at in
    let is = stands.is in
    omega (arith, found, is)
  where
    at_within : (es : List Extent) (i : ℕ) (e : Extent) → extent_at es i ≡ Some e → i < length es
    at_within [] i e a = absurd (let x : ◌≡◌ {A = Option Extent} None (Some e) = a in cc)
    at_within (x ∷ es) zero e a = omega arith
    at_within (x ∷ es) (suc i) e a = (let k = at_within es i e a in omega (arith, k))

-- an extent that is taken next is a whole one
pub extent_whole : (sh : Shape) (R : List Record) (o x : ℕ) → is_shape sh ≡ true → IsLawful sh R → IsTable R o → next_mark sh R o ≡ Some (step.Extend x) → is_extent sh x ≡ true
extent_whole sh R o x s h t m = (and_parts (is_extent sh x) (not (is_taken R MOST_TABLES x)) ((next_marks_mean sh R o s h.allowed t).is (step.Extend x) m).extent.free).0

-- the list with the record
pub mark_lawful : (sh : Shape) (R : List Record) (o : ℕ) (m : MarkStep) → is_shape sh ≡ true → IsLawful sh R → IsTable R o → next_mark sh R o ≡ Some m → IsLawful sh (mark_record sh R o m ∷ R)
mark_lawful sh R o m s h t e = (marks_are_allowed sh R o s h t).lawful m e

pub movement_lawful : (sh : Shape) (R : List Record) (o : ℕ) (on : Bool) → IsLawful sh R → IsTable R o → IsLawful sh (Movement (drafted_movement sh R o on) ∷ R)
movement_lawful sh R o on h t = (movements_are_allowed sh R o h t).lawful on

-- with the store's shape at hand
pub law_at : (sh sh' : Shape) (R : List Record) → sh ≡ sh' → IsLawful sh' R → IsLawful sh R
law_at sh sh' R e h = subst (λ (z : Shape). IsLawful z R) (sym e) h

pub segment_at : (sh sh' : Shape) (R : List Record) (o : ℕ) (s : Segment) → sh ≡ sh' → IsSegment sh' R o s → IsSegment sh R o s
segment_at sh sh' R o s e h = subst (λ (z : Shape). IsSegment z R o s) (sym e) h

pub next_at : (sh sh' : Shape) (R : List Record) (o : ℕ) (m : MarkStep) → sh ≡ sh' → next_mark sh' R o ≡ Some m → next_mark sh R o ≡ Some m
next_at sh sh' R o m e h = ap (λ (z : Shape). next_mark z R o) e ∙ h
