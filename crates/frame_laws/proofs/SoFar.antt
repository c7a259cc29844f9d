-- How far pages have come, and that they can be read back.
use Rattle.std.proofs.Common.{◌≡◌, ℕ, suc, ◌<◌, ◌≤◌, ◌^◌, true, not, nat_eq, nat_lt, List, length, Option, Some, None, IfSome, IsSome, refl, sym, subst, arith, ltb-true}
use Rattle.seg_words.proofs.Lemmas.{and_parts}
use Rattle.seg_words.specs.Types.{Shape, is_shape, CHECKPOINT_BLOCK}
use Rattle.redo_model.specs.Records.{Record}
use Rattle.redo_model.specs.Model.{AreAllowed}
use Rattle.redo_laws.proofs.numbers.Bounds.{limits}
use Rattle.page_store.specs.Types.{is_place}
use Rattle.page_set.specs.declared.page.Page.{Page}
use Rattle.page_set.specs.Pages.{lsn_of}
use Rattle.page_set.specs.Folded.{page_of}
use Rattle.page_set.proofs.LsnLaw.{lsns_tell}
use Rattle.page_says.specs.SpelledPages.{PageIsSpelled}
use Rattle.page_says.proofs.SpelledLaw.{pages_are_spelled}
use Rattle.buffer_pool.specs.declared.frame.Frame.{Frame}
use Rattle.buffer_pool.specs.Frames.{frame_at, has_page, IsShown}
use Rattle.frame_laws.specs.Showing.{FramesComeSoFar, PagesComeSoFar, PagesReadBack}

pub pages_come_so_far : PagesComeSoFar
pages_come_so_far sh R d = (lsns_tell sh R d).most

framed_so_far : (sh : Shape) (R : List Record) (d : ℕ) (bytes : List ℕ) (o : Option Frame) → (IsSome o → IsShown d o bytes (page_of sh R d)) → IfSome o (λ f. lsn_of f.page ≤ length R)
framed_so_far sh R d bytes None shown = tt
framed_so_far sh R d bytes (Some f) shown = subst (λ (p : Page). lsn_of p ≤ length R) (sym (shown refl).0) (pages_come_so_far sh R d)

pub frames_come_so_far : FramesComeSoFar
frames_come_so_far sh R pages held shows only = record { at = λ d. framed_so_far sh R d (pages d) (frame_at held d) (λ has. shows.at d (only.at d has)) }

-- a block that has a page lies in the store
page_within : (sh : Shape) (d : ℕ) → has_page sh d ≡ true → d < sh.blocks
page_within sh d h =
    let place = and_parts (not (nat_eq d CHECKPOINT_BLOCK)) (is_place sh d) h in
    ltb-true d sh.blocks (and_parts (nat_lt d sh.blocks) _ place.1).0

spelled_page : (sh : Shape) (R : List Record) → is_shape sh ≡ true → suc (length R) < 2 ^ 64 → AreAllowed sh R → (d : ℕ) → has_page sh d ≡ true → PageIsSpelled sh R d
spelled_page sh R s l h d has =
    let most = (limits sh s).most in
    let within = page_within sh d has in
    pages_are_spelled sh R d s l h (omega (arith, most, within))

pub pages_read_back : PagesReadBack
pages_read_back sh R s l h = record { spelled = λ d has. (spelled_page sh R s l h d has).spelled; dba = λ d has. (spelled_page sh R s l h d has).number }
