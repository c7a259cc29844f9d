-- What a search knows, on a true store, and after further calls that only look at it.
use Rattle.std.proofs.Common.{◌≡◌, ℕ, Bool, true, List, refl, sym, ◌∙◌, ap, subst}
use Rattle.seg_words.specs.Types.{Shape, Block, takes, is_shape}
use Rattle.disk_model.specs.Crash.{Meaning}
use Rattle.redo_model.specs.Records.{Record}
use Rattle.redo_model.specs.Model.{IsRowBlock, IsTable, IsLawful, pctfree_of, block_of, data_blocks, ended_in, high_mark, takes_row, under_high}
use Rattle.redo_laws.proofs.numbers.Bounds.{data_bound}
use Rattle.redo_laws.proofs.space.Places.{in_contains, in_take}
use Rattle.row_block.specs.RowPage.{RowPage}
use Rattle.txn_block.specs.Types.{TxnTable}
use Rattle.version_laws.specs.Types.{HoldsTable, ended_by}
use Rattle.version_laws.proofs.TableLaw.{tables_tell}
use Rattle.page_set.specs.declared.page.Page.{Page}
use Rattle.page_set.specs.Folded.{page_of}
use Rattle.store_laws.specs.Kinds.{HasRowPage}
use Rattle.store_laws.proofs.KindsLaw.{rows_stand}
use Rattle.store_core.specs.Store.{Held, IsTrue, SameLoan, has_page}
use Rattle.store_read.proofs.Truth.{page_when}
use Rattle.segment_read.specs.declared.segment.Segment.{Segment}
use Rattle.segment_read.specs.Segments.{IsSegment}
use Rattle.free_search.specs.declared.look.Look.{Look}
use Rattle.free_search.specs.declared.look.Row.{Row}
use Rattle.free_search.specs.Looks.{HasSegment, Knows, IsLook}

-- by the shape that a walk over the segment keeps
pub record FixedSegment (R : List Record) (k : Shape) (s : Segment) : Type 0 where
  pub within : is_shape k ≡ true
  pub lawful : IsLawful k R
  pub table : IsTable R s.obj
  pub segment : IsSegment k R s.obj s

pub fixed_segment : {D : Type 0} (meaning : Meaning D) (a : Held D) (R : List Record) (k : Shape) (s : Segment) → IsTrue meaning R a → HasSegment a.shape R k s → FixedSegment R k s
fixed_segment meaning a R k s t h = record {
  within = ap is_shape h.shape ∙ t.list.within;
  lawful = subst (λ (sh : Shape). IsLawful sh R) (sym h.shape) t.lawful;
  table = h.table;
  segment = h.segment;
}

pub segment_later : {D : Type 0} (meaning : Meaning D) (a b : Held D) (R : List Record) (k : Shape) (s : Segment) → SameLoan meaning a b → HasSegment a.shape R k s → HasSegment b.shape R k s
segment_later meaning a b R k s loan h = record { shape = h.shape ∙ sym loan.shape; table = h.table; segment = h.segment }

pub segment_said : (sh : Shape) (R : List Record) (k : Shape) (s : Segment) → HasSegment sh R k s → IsSegment sh R s.obj s
segment_said sh R k s h = subst (λ (x : Shape). IsSegment x R s.obj s) h.shape h.segment

-- a segment that was read is known
pub segment_is : (sh : Shape) (R : List Record) (o : ℕ) (k : Shape) (s : Segment) → k ≡ sh → IsTable R o → IsSegment sh R o s → HasSegment sh R k s
segment_is sh R o k s e t is = record {
  shape = e;
  table = subst (λ n. IsTable R n) (sym is.obj) t;
  segment = subst (λ (x : Shape). IsSegment x R s.obj s) (sym e) (subst (λ n. IsSegment sh R n s) (sym is.obj) is);
}

pub segment_of : (sh : Shape) (R : List Record) (l : Look) → Knows sh R l → HasSegment sh R l.shape l.segment
segment_of sh R l k = record { shape = k.shape; table = k.table; segment = k.segment }

-- by the shape that the search keeps
pub record Fixed (R : List Record) (l : Look) : Type 0 where
  pub shape : is_shape l.shape ≡ true
  pub lawful : IsLawful l.shape R
  pub table : IsTable R l.segment.obj
  pub segment : IsSegment l.shape R l.segment.obj l.segment
  pub ended : ended_by l.table ≡ ended_in R

pub fixed : {D : Type 0} (meaning : Meaning D) (a : Held D) (R : List Record) (l : Look) → IsTrue meaning R a → Knows a.shape R l → Fixed R l
fixed meaning a R l t k = record {
  shape = ap is_shape k.shape ∙ t.list.within;
  lawful = subst (λ (sh : Shape). IsLawful sh R) (sym k.shape) t.lawful;
  table = k.table;
  segment = k.segment;
  ended = k.ended;
}

pub segment_fixed : (R : List Record) (l : Look) → Fixed R l → FixedSegment R l.shape l.segment
segment_fixed R l k = record { within = k.shape; lawful = k.lawful; table = k.table; segment = k.segment }

-- after calls that keep the store's shape
pub knows_later : {D : Type 0} (meaning : Meaning D) (a b : Held D) (R : List Record) (l : Look) → SameLoan meaning a b → Knows a.shape R l → Knows b.shape R l
knows_later meaning a b R l loan k = record { shape = k.shape ∙ sym loan.shape; table = k.table; segment = k.segment; ended = k.ended }

-- what was read is known
pub look_is : (sh : Shape) (R : List Record) (o : ℕ) (row : Row) (shape : Shape) (segment : Segment) (table : TxnTable) → shape ≡ sh → IsLawful sh R → IsTable R o → IsSegment sh R o segment → HoldsTable R table
    → IsLook sh R o row (record { shape = shape; segment = segment; table = table; row = row })
look_is sh R o row shape segment table e h t is holds = record {
  knows = record {
    shape = e;
    table = subst (λ n. IsTable R n) (sym is.obj) t;
    segment = subst (λ (s : Shape). IsSegment s R segment.obj segment) (sym e) (subst (λ n. IsSegment sh R n segment) (sym is.obj) is);
    ended = (tables_tell sh R table h.allowed holds).ended;
  };
  obj = is.obj;
  row = refl;
}

-- the page of a row block

pub rows_at : (R : List Record) (l : Look) (b : ℕ) → Fixed R l → IsRowBlock l.shape R l.segment.obj b → HasRowPage l.shape R b
rows_at R l b k x = rows_stand l.shape R l.segment.obj b k.shape k.lawful x

pub page_rows : (sh : Shape) (R : List Record) (l : Look) (b : ℕ) (p : Page) → Knows sh R l → p ≡ page_of sh R b → p ≡ page_of l.shape R b
page_rows sh R l b p k e = e ∙ ap (λ (s : Shape). page_of s R b) (sym k.shape)

pub row_has : (sh : Shape) (R : List Record) (l : Look) (b : ℕ) → Knows sh R l → Fixed R l → IsRowBlock l.shape R l.segment.obj b → has_page sh b ≡ true
row_has sh R l b k f x =
    let c = x.here in
    let bound = data_bound l.shape R l.segment.obj b f.lawful.allowed (in_take b (high_mark R l.segment.obj) (data_blocks l.shape R l.segment.obj) (in_contains (under_high l.shape R l.segment.obj) b c.0 c.1 c.2)) in
    subst (λ (s : Shape). has_page s b ≡ true) k.shape (page_when l.shape b bound.0 bound.1)

-- a block takes the row where its page says so
pub takes_told : (R : List Record) (l : Look) (b : ℕ) (p : RowPage) → Fixed R l → p.block ≡ block_of R b → takes (ended_by l.table) l.segment.pctfree p.block l.row.len l.row.taker ≡ takes_row R (pctfree_of R l.segment.obj) b l.row.len l.row.taker
takes_told R l b p k e =
    ap (λ (f : ℕ → Bool). takes f l.segment.pctfree p.block l.row.len l.row.taker) k.ended
    ∙ ap (λ n. takes (ended_in R) n p.block l.row.len l.row.taker) k.segment.pctfree
    ∙ ap (λ (x : Block). takes (ended_in R) (pctfree_of R l.segment.obj) x l.row.len l.row.taker) e
