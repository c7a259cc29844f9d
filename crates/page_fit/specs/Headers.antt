-- What the page of a table's header says, by the model's words. Between a Table and its first Extend the header stands
-- already, in the extent that the Extend takes.
use Rattle.std.specs.Prelude.{◌≡◌, ℕ, true, cond, eqb, List, [], ◌∷◌, map}
use Rattle.seg_base.specs.declared.shape.Shape.{Shape}
use Rattle.seg_base.specs.Places.{is_shape}
use Rattle.segment_blocks.specs.Headers.{Header as HeaderPage}
use Rattle.redo_record.specs.declared.record.Record.{Record}
use Rattle.redo_record.specs.declared.record.Record.TheVariants.{Table}
use Rattle.redo_model.specs.Segments.{Extent, extents_of, IsTable, low_mark, high_mark, pctfree_of, has_movement, header_of}
use Rattle.redo_model.specs.Lawful.{AreAllowed, is_whole}
use Rattle.page_set.specs.declared.page.Page.{Page}
use Rattle.page_set.specs.declared.page.Page.TheVariants.{Header}
use Rattle.page_set.specs.Folded.{page_of}

abbrev pub header_after : Record → ℕ → ℕ → ℕ
header_after (Table t) o was = cond (eqb t.obj o) t.header was
header_after _ o was = was

-- the block that table o's Table states as its header
abbrev pub stated_header : List Record → ℕ → ℕ
stated_header [] o = 0
stated_header (r ∷ R) o = header_after r o (stated_header R o)

pub record HeaderSays (R : List Record) (o : ℕ) (h : HeaderPage) : Type 0 where
  pub obj : h.obj ≡ o
  pub pctfree : h.pctfree ≡ pctfree_of R o
  pub movement : h.movement ≡ has_movement R o
  pub low : h.low ≡ low_mark R o
  pub high : h.high ≡ high_mark R o
  pub extents : h.extents ≡ map (λ (e : Extent). e.number) (extents_of R o)

abbrev pub SaysHeader : List Record → ℕ → Page → Type 0
SaysHeader R o (Header h) = HeaderSays R o h
SaysHeader R o _ = ⊥

-- the page of a table's header has the table's number, its PCTFREE, whether rows may be moved, its marks and its extents
abbrev pub HeadersSay : Type 0
HeadersSay = (sh : Shape) (R : List Record) (o : ℕ) → is_shape sh ≡ true → AreAllowed sh R → IsTable R o → SaysHeader R o (page_of sh R (stated_header R o))

-- the header that is stated is the one that the model names
abbrev pub HeadersAreStated : Type 0
HeadersAreStated = (sh : Shape) (R : List Record) (o : ℕ) → AreAllowed sh R → is_whole R ≡ true → IsTable R o → stated_header R o ≡ header_of sh (extents_of R o)
