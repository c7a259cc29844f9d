-- Pages that records have changed and that aren't in their frames yet: what `prepare` makes and `install` puts in.
use Rattle.std.specs.Prelude.{◌≡◌, ◌⊎◌, ℕ, ◌+◌, Bool, true, ◌&&◌, ◌||◌, nat_lt, eqb, cond, List, [], ◌∷◌, ◌++◌, Option, Some, None, IsSome, Result, Ok, Err}
use Rattle.seg_words.specs.Types.{Shape}
use Rattle.redo_record.specs.declared.record.Record.{Record}
use Rattle.page_store.specs.declared.fault.PageFault.{PageFault}
use Rattle.page_store.specs.declared.fault.PageFault.TheVariants.{DeviceFault, BadPage, NoMemory}
use Rattle.page_set.specs.declared.page.Page.{Page}
use Rattle.page_set.specs.Pages.{lsn_of}
use Rattle.page_set.specs.Changes.{changed_page, Fits}
use Rattle.page_set.specs.Among.{is_among}
use Rattle.page_set.specs.Folded.{touched, page_of}
use Rattle.buffer_pool.specs.declared.changed.NewPage.{NewPage}
use Rattle.buffer_pool.specs.declared.frame.Frame.{Frame}
use Rattle.buffer_pool.specs.Frames.{frame_at, framed, has_page, dirty_frame, IsSpelled}

-- The record changes the page of block d: it touches the block, and the page has a lesser LSN. A page of the same LSN or a
-- greater one has the record already.
abbrev pub changes : Shape → Record → ℕ → ℕ → Page → Bool
changes sh r lsn d p = is_among (touched sh r) d && nat_lt (lsn_of p) lsn

-- the page of block d as the record leaves it
abbrev pub redone : Shape → Record → ℕ → ℕ → Page → Page
redone sh r lsn d p = cond (changes sh r lsn d p) (changed_page r lsn p) p

-- the pages as one record or two leave them
abbrev pub redone_all : Shape → Record → Option Record → ℕ → (ℕ → Page) → ℕ → Page
redone_all sh r None lsn image d = redone sh r lsn d (image d)
redone_all sh r (Some s) lsn image d = redone sh s (lsn + 1) d (redone sh r lsn d (image d))

-- the pages with those that the record touches changed by it
abbrev pub changed_at : Shape → Record → ℕ → (ℕ → Page) → ℕ → Page
changed_at sh r lsn image d = cond (is_among (touched sh r) d) (changed_page r lsn (image d)) (image d)

-- the records with one more, or two
abbrev pub with_records : Record → Option Record → List Record → List Record
with_records r None R = r ∷ R
with_records r (Some s) R = s ∷ r ∷ R

-- one of the records touches block d
abbrev pub any_touches : Shape → Record → Option Record → ℕ → Bool
any_touches sh r None d = is_among (touched sh r) d
any_touches sh r (Some s) d = is_among (touched sh r) d || is_among (touched sh s) d

-- the page of block d when these are put over the one that was there: the last of them that is the block's
abbrev pub over_in : List NewPage → Page → ℕ → Page
over_in [] base d = base
over_in (n ∷ ns) base d = cond (eqb n.dba d) (over_in ns n.page d) (over_in ns base d)

-- the frame of block d when these are put in
abbrev pub frame_with : List NewPage → Option Frame → ℕ → Option Frame
frame_with [] o d = o
frame_with (n ∷ ns) o d = frame_with ns (cond (eqb n.dba d) (Some (dirty_frame n.page)) o) d

-- each of these is in its frame, which is dirty, and each other frame is as it was
pub record Installed (new : List NewPage) (old now : List (ℕ × Frame)) : Type 0 where
  pub at : (d : ℕ) → frame_at now d ≡ frame_with new (frame_at old d) d

-- each has a frame
abbrev pub HaveFrames : List NewPage → List (ℕ × Frame) → Type 0
HaveFrames [] held = Unit {0}
HaveFrames (n ∷ ns) held = IsSome (frame_at held n.dba) × HaveFrames ns held

-- each of these blocks has a page, and has a frame
abbrev pub AreFramed : Shape → List ℕ → List (ℕ × Frame) → Type 0
AreFramed sh [] held = Unit {0}
AreFramed sh (d ∷ ds) held = (has_page sh d ≡ true) × IsSome (frame_at held d) × AreFramed sh ds held

-- what a record makes of the page of one block
abbrev pub one_made : Record → ℕ → ℕ → Page → List NewPage
one_made r lsn d p = cond (nat_lt (lsn_of p) lsn) (record { dba = d; page = changed_page r lsn p } ∷ []) []

-- what it makes of the pages of these blocks, where it finds the first ones put over the others
abbrev pub made : Record → ℕ → List NewPage → List (ℕ × Frame) → List ℕ → List NewPage
made r lsn first held [] = []
made r lsn first held (d ∷ ds) = one_made r lsn d (over_in first (framed held d) d) ++ made r lsn first held ds

-- what two records make of the pages of their blocks, the second of those that the first leaves
abbrev pub made_by_two : Record → Record → ℕ → List (ℕ × Frame) → List ℕ → List ℕ → List NewPage
made_by_two r s lsn held ds es = made r lsn [] held ds ++ made s (lsn + 1) (made r lsn [] held ds) held es

-- put over the pages of `image` they make those of `image'`
abbrev pub LeadsTo : Shape → (ℕ → Page) → (ℕ → Page) → List NewPage → Type 0
LeadsTo sh image image' new = (d : ℕ) → has_page sh d ≡ true → over_in new (image d) d ≡ image' d

-- put over the pages after the records R they make those after the records Q
abbrev pub Leads : Shape → List Record → List Record → List NewPage → Type 0
Leads sh R Q new = LeadsTo sh (page_of sh R) (page_of sh Q) new

-- a record that goes to the page of block d fits on it
abbrev pub FitsOn : Record → ℕ → Page → Type 0
FitsOn r lsn p = nat_lt (lsn_of p) lsn ≡ true → Fits r lsn p

-- on each of these blocks
abbrev pub AllFit : Record → ℕ → List NewPage → List (ℕ × Frame) → List ℕ → Type 0
AllFit r lsn first held [] = Unit {0}
AllFit r lsn first held (d ∷ ds) = FitsOn r lsn (over_in first (framed held d) d) × AllFit r lsn first held ds

-- why the pages of these blocks aren't made
abbrev pub WhyNotMade : Record → ℕ → List NewPage → List (ℕ × Frame) → List ℕ → PageFault → Type 0
WhyNotMade r lsn first held ds (BadPage b) = (is_among ds b ≡ true) × (FitsOn r lsn (over_in first (framed held b) b) → ⊥)
WhyNotMade r lsn first held ds NoMemory = Unit {0}
WhyNotMade r lsn first held ds DeviceFault = ⊥

abbrev pub WhyNotMadeByTwo : Record → Record → ℕ → List (ℕ × Frame) → List ℕ → List ℕ → PageFault → Type 0
WhyNotMadeByTwo r s lsn held ds es e = WhyNotMade r lsn [] held ds e ⊎ WhyNotMade s (lsn + 1) (made r lsn [] held ds) held es e

-- the records that touch block d fit on its page, one after the other
abbrev pub AllFitOn : Shape → Record → Option Record → ℕ → ℕ → Page → Type 0
AllFitOn sh r None lsn d p = is_among (touched sh r) d ≡ true → FitsOn r lsn p
AllFitOn sh r (Some s) lsn d p = (is_among (touched sh r) d ≡ true → FitsOn r lsn p) × (is_among (touched sh s) d ≡ true → FitsOn s (lsn + 1) (redone sh r lsn d p))

-- block d has a page, which can be read where it has no frame, and the records fit on it
pub record IsReady (sh : Shape) (r : Record) (s : Option Record) (lsn : ℕ) (bytes : List ℕ) (frame : Option Frame) (d : ℕ) (p : Page) : Type 0 where
  pub has : has_page sh d ≡ true
  pub spelled : frame ≡ None → IsSpelled d bytes
  pub fit : AllFitOn sh r s lsn d p

-- What `prepare` answered, over a file with these pages and a pool that shows `image`: `BadPage` names a touched block that
-- has no page, or whose bytes in the file spell none, or on whose page a record doesn't fit.
abbrev pub IsPreparing : Shape → Record → Option Record → ℕ → (ℕ → List ℕ) → List (ℕ × Frame) → (ℕ → Page) → Result (List NewPage) PageFault → Type 0
IsPreparing sh r s lsn pages held image (Ok new) = (d : ℕ) → any_touches sh r s d ≡ true → IsReady sh r s lsn (pages d) (frame_at held d) d (image d)
IsPreparing sh r s lsn pages held image (Err DeviceFault) = Unit {0}
IsPreparing sh r s lsn pages held image (Err (BadPage b)) = (any_touches sh r s b ≡ true) × (IsReady sh r s lsn (pages b) (frame_at held b) b (image b) → ⊥)
IsPreparing sh r s lsn pages held image (Err NoMemory) = Unit {0}
