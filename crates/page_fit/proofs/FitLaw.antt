-- Each allowed record fits every page that it touches.
use Rattle.std.proofs.Common.{◌≡◌, ◌⊎◌, ℕ, zero, suc, ◌+◌, ◌-◌, ◌*◌, ◌<◌, ◌≤◌, min, Bool, true, false, eqb, ◌||◌, List, [], ◌∷◌, length, map, take, drop, slice_index, Option, Some, None, refl, sym, ◌∙◌, ap, subst, arith, inl, inr}
use Rattle.std.proofs.lemmas.Bool.{true≢false, cases_Bool, eqb-true, eq-eqb, or_cases, or_left, or_right, and_parts, leb-true, cond-true, cond-false}
use Rattle.std.proofs.lemmas.List.{length-map}
use Rattle.std.proofs.Math.Nat.{mul-le-mul_left}
use Rattle.seg_base.specs.declared.shape.Shape.{Shape}
use Rattle.seg_base.specs.Places.{first_block, is_extent, is_shape}
use Rattle.seg_words.specs.Types.{AllByRecursion, BLOCK_ROOM, TXN_ENTRIES, MOST_TABLES, MOST_EXTENTS, EXTENTS_OF_L2, OWN_BLOCKS, LEAST_EXTENT_BLOCKS, MOST_EXTENT_BLOCKS}
use Rattle.row_block.specs.RowPage.{RowPage}
use Rattle.undo_block.specs.declared.part.Part.{Part}
use Rattle.undo_block.specs.Parts.{used_by, HasPartForm}
use Rattle.undo_block.specs.UndoPage.{UndoPage}
use Rattle.txn_block.specs.Tables.{TxnTable}
use Rattle.bitmap_block.specs.Pages.{ExtentMap, Summary}
use Rattle.redo_record.specs.declared.record.Record.{Record}
use Rattle.redo_record.specs.declared.record.Record.TheVariants.{Table, Movement, Extend, FormatBlock, Class, Advance, Lower, Begin, Reuse, Insert, Update, Migrate, Return, Delete, Commit, Back, Ended, Move, Clean}
use Rattle.redo_record.specs.declared.part.RowPart.{RowPart}
use Rattle.redo_record.specs.declared.part.BackPart.{BackPart}
use Rattle.redo_record.specs.declared.row.RowBody.{RowBody}
use Rattle.redo_record.specs.declared.row.BackRecord.{BackRecord}
use Rattle.redo_record.specs.declared.row.MoveRecord.{MoveRecord}
use Rattle.redo_record.specs.declared.transaction.BeginRecord.{BeginRecord}
use Rattle.redo_record.specs.declared.transaction.ReuseRecord.{ReuseRecord}
use Rattle.redo_record.specs.declared.space.ExtendRecord.{ExtendRecord}
use Rattle.redo_record.specs.declared.space.FormatBlockRecord.{FormatBlockRecord}
use Rattle.redo_record.specs.declared.space.ClassRecord.{ClassRecord}
use Rattle.redo_record.specs.declared.space.TableRecord.{TableRecord}
use Rattle.redo_record.specs.declared.space.MovementRecord.{MovementRecord}
use Rattle.redo_record.specs.declared.space.AdvanceRecord.{AdvanceRecord}
use Rattle.redo_record.specs.declared.space.LowerRecord.{LowerRecord}
use Rattle.redo_model.specs.Effects.{Step, Adds, effect_of, row_step, move_step}
use Rattle.redo_model.specs.Ordinals.{txn_count}
use Rattle.redo_model.specs.Segments.{Extent, extents_of, data_blocks, high_mark, IsTable, IsRowBlock, has_extent, extent_at, block_in, group_start, header_of}
use Rattle.redo_model.specs.Transactions.{entry_of}
use Rattle.redo_model.specs.AllowedRows.{MayChange, migrates_plain, migrates_again, deletes_plain, deletes_migrated, MigrateAllowed, DeleteAllowed}
use Rattle.redo_model.specs.AllowedTransactions.{TakesEntry, takes_unused, takes_rolled_back, takes_committed}
use Rattle.redo_model.specs.Undo.{held_by, undo_held}
use Rattle.redo_model.specs.Steps.{standing, newest_of, undo_of_step, without_step}
use Rattle.redo_model.specs.AllowedTables.{l2_at, StatesBitmaps}
use Rattle.redo_model.specs.Lawful.{IsKindAllowed, AreAllowed, is_whole}
use Rattle.redo_laws.specs.Among.{is_in}
use Rattle.redo_laws.proofs.space.ApartLaw.{placed}
use Rattle.redo_laws.proofs.numbers.Bounds.{Limits, limits, data_bound, reuse_bound, l1_best_bound, l2_best_bound}
use Rattle.redo_laws.proofs.space.Places.{in_data, in_take, format_first}
use Rattle.redo_laws.proofs.lists.Every.{Every, every-filter}
use Rattle.redo_laws.proofs.numbers.TxnTable.{txn_table}
use Rattle.page_set.specs.declared.page.Page.{Page}
use Rattle.page_set.specs.declared.page.Page.TheVariants as pages
use Rattle.page_set.specs.Rows as rows
use Rattle.page_set.specs.Undo as undo
use Rattle.page_set.specs.Txns.{RowFits, UndoIsBlock}
use Rattle.page_set.specs.Spaces.{AreCovered}
use Rattle.page_set.specs.Pages.{dba_of}
use Rattle.page_set.specs.Started.{start, or_kept, as_catalogue, as_space}
use Rattle.page_set.specs.Changes.{PageFits}
use Rattle.page_set.specs.Among.{is_among, blocks_of, back_blocks}
use Rattle.page_set.specs.Folded.{page_of, touched, touched_by_row, those, first_of}
use Rattle.page_set.specs.Says.{as_kept, Says}
use Rattle.page_set.proofs.SaysLaw.{says, dba_says}
use Rattle.page_laws.specs.Fits.{rows_named}
use Rattle.page_laws.proofs.FitsLaw.{SomeHome, step_home, back_home, steps_fit_in_turn}
use Rattle.page_laws.proofs.UndoLaw.{undo_takes_parts}
use Rattle.page_laws.proofs.TxnsLaw.{InRing, in_ring}
use Rattle.redo_laws.proofs.steps.Held.{newest_has}
use Rattle.sort_laws.specs.Sorts.{Sort, Blank, Rows, Undo, Txns, First, Second, Third, sort_of, changes_table, MapsFit}
use Rattle.sort_laws.proofs.MeetsLaw.{records_meet_sorts}
use Rattle.sort_laws.proofs.SortsLaw.{sorts_are_made}
use Rattle.space_laws.proofs.IncarnationsLaw.{at_in_taken}
use Rattle.sort_laws.proofs.SortsLaw.{at_exists}
use Rattle.redo_model.specs.Kept.{best_in_l2}
use Rattle.page_fit.specs.Headers.{stated_header, SaysHeader}
use Rattle.page_fit.specs.FitPages.{HasRows, IsTabled, RecordsFitPages, FormattedBlocksHaveRows}
use Rattle.page_fit.proofs.Headed.{Standing, Headed, headed, no_wait}
use Rattle.page_fit.proofs.Plain.{Plain, header_table, extend_header, low_plain, head_plain}
use Rattle.page_fit.proofs.Sorted.{sort_name, after_sort, among_same, pages_sorted}
use Rattle.page_fit.proofs.HeaderApart.{header_at, data_table, home_in, first_is}
use Rattle.page_fit.proofs.HeaderLaw.{extend_starts, high_header, model_header, headers_say}
use Rattle.page_fit.proofs.LowPages.{IsCatalogue, catalogue_stands, IsSpace, space_stands}

-- pages of a sort

pub is_rows : (p : Page) → sort_name p ≡ Some Rows → (x : RowPage) × (p ≡ pages.Rows x)
is_rows (pages.Zero x) e = absurd (let z : ◌≡◌ {A = Option Sort} (Some Blank) (Some Rows) = e in let y : Blank ≡ Rows = cc in let w : Blank ≡ Rows = y in cc)
is_rows (pages.Checkpoint x) e = absurd (let z : ◌≡◌ {A = Option Sort} None (Some Rows) = e in cc)
is_rows (pages.Txns x) e = absurd (let z : ◌≡◌ {A = Option Sort} (Some Txns) (Some Rows) = e in let y : Txns ≡ Rows = cc in let w : Txns ≡ Rows = y in cc)
is_rows (pages.Catalogue x) e = absurd (let z : ◌≡◌ {A = Option Sort} None (Some Rows) = e in cc)
is_rows (pages.Space x) e = absurd (let z : ◌≡◌ {A = Option Sort} None (Some Rows) = e in cc)
is_rows (pages.Undo x) e = absurd (let z : ◌≡◌ {A = Option Sort} (Some Undo) (Some Rows) = e in let y : Undo ≡ Rows = cc in let w : Undo ≡ Rows = y in cc)
is_rows (pages.First x) e = absurd (let z : ◌≡◌ {A = Option Sort} (Some First) (Some Rows) = e in let y : First ≡ Rows = cc in let w : First ≡ Rows = y in cc)
is_rows (pages.Second x) e = absurd (let z : ◌≡◌ {A = Option Sort} (Some Second) (Some Rows) = e in let y : Second ≡ Rows = cc in let w : Second ≡ Rows = y in cc)
is_rows (pages.Third x) e = absurd (let z : ◌≡◌ {A = Option Sort} (Some Third) (Some Rows) = e in let y : Third ≡ Rows = cc in let w : Third ≡ Rows = y in cc)
is_rows (pages.Header x) e = absurd (let z : ◌≡◌ {A = Option Sort} None (Some Rows) = e in cc)
is_rows (pages.Rows x) e = (x, refl)

pub is_undo : (p : Page) → sort_name p ≡ Some Undo → (x : UndoPage) × (p ≡ pages.Undo x)
is_undo (pages.Zero x) e = absurd (let z : ◌≡◌ {A = Option Sort} (Some Blank) (Some Undo) = e in let y : Blank ≡ Undo = cc in let w : Blank ≡ Undo = y in cc)
is_undo (pages.Checkpoint x) e = absurd (let z : ◌≡◌ {A = Option Sort} None (Some Undo) = e in cc)
is_undo (pages.Txns x) e = absurd (let z : ◌≡◌ {A = Option Sort} (Some Txns) (Some Undo) = e in let y : Txns ≡ Undo = cc in let w : Txns ≡ Undo = y in cc)
is_undo (pages.Catalogue x) e = absurd (let z : ◌≡◌ {A = Option Sort} None (Some Undo) = e in cc)
is_undo (pages.Space x) e = absurd (let z : ◌≡◌ {A = Option Sort} None (Some Undo) = e in cc)
is_undo (pages.Undo x) e = (x, refl)
is_undo (pages.First x) e = absurd (let z : ◌≡◌ {A = Option Sort} (Some First) (Some Undo) = e in let y : First ≡ Undo = cc in let w : First ≡ Undo = y in cc)
is_undo (pages.Second x) e = absurd (let z : ◌≡◌ {A = Option Sort} (Some Second) (Some Undo) = e in let y : Second ≡ Undo = cc in let w : Second ≡ Undo = y in cc)
is_undo (pages.Third x) e = absurd (let z : ◌≡◌ {A = Option Sort} (Some Third) (Some Undo) = e in let y : Third ≡ Undo = cc in let w : Third ≡ Undo = y in cc)
is_undo (pages.Header x) e = absurd (let z : ◌≡◌ {A = Option Sort} None (Some Undo) = e in cc)
is_undo (pages.Rows x) e = absurd (let z : ◌≡◌ {A = Option Sort} (Some Rows) (Some Undo) = e in let y : Rows ≡ Undo = cc in let w : Rows ≡ Undo = y in cc)

pub is_txns : (p : Page) → sort_name p ≡ Some Txns → (x : TxnTable) × (p ≡ pages.Txns x)
is_txns (pages.Zero x) e = absurd (let z : ◌≡◌ {A = Option Sort} (Some Blank) (Some Txns) = e in let y : Blank ≡ Txns = cc in let w : Blank ≡ Txns = y in cc)
is_txns (pages.Checkpoint x) e = absurd (let z : ◌≡◌ {A = Option Sort} None (Some Txns) = e in cc)
is_txns (pages.Txns x) e = (x, refl)
is_txns (pages.Catalogue x) e = absurd (let z : ◌≡◌ {A = Option Sort} None (Some Txns) = e in cc)
is_txns (pages.Space x) e = absurd (let z : ◌≡◌ {A = Option Sort} None (Some Txns) = e in cc)
is_txns (pages.Undo x) e = absurd (let z : ◌≡◌ {A = Option Sort} (Some Undo) (Some Txns) = e in let y : Undo ≡ Txns = cc in let w : Undo ≡ Txns = y in cc)
is_txns (pages.First x) e = absurd (let z : ◌≡◌ {A = Option Sort} (Some First) (Some Txns) = e in let y : First ≡ Txns = cc in let w : First ≡ Txns = y in cc)
is_txns (pages.Second x) e = absurd (let z : ◌≡◌ {A = Option Sort} (Some Second) (Some Txns) = e in let y : Second ≡ Txns = cc in let w : Second ≡ Txns = y in cc)
is_txns (pages.Third x) e = absurd (let z : ◌≡◌ {A = Option Sort} (Some Third) (Some Txns) = e in let y : Third ≡ Txns = cc in let w : Third ≡ Txns = y in cc)
is_txns (pages.Header x) e = absurd (let z : ◌≡◌ {A = Option Sort} None (Some Txns) = e in cc)
is_txns (pages.Rows x) e = absurd (let z : ◌≡◌ {A = Option Sort} (Some Rows) (Some Txns) = e in let y : Rows ≡ Txns = cc in let w : Rows ≡ Txns = y in cc)

pub is_first : (p : Page) → sort_name p ≡ Some First → (x : ExtentMap) × (p ≡ pages.First x)
is_first (pages.Zero x) e = absurd (let z : ◌≡◌ {A = Option Sort} (Some Blank) (Some First) = e in let y : Blank ≡ First = cc in let w : Blank ≡ First = y in cc)
is_first (pages.Checkpoint x) e = absurd (let z : ◌≡◌ {A = Option Sort} None (Some First) = e in cc)
is_first (pages.Txns x) e = absurd (let z : ◌≡◌ {A = Option Sort} (Some Txns) (Some First) = e in let y : Txns ≡ First = cc in let w : Txns ≡ First = y in cc)
is_first (pages.Catalogue x) e = absurd (let z : ◌≡◌ {A = Option Sort} None (Some First) = e in cc)
is_first (pages.Space x) e = absurd (let z : ◌≡◌ {A = Option Sort} None (Some First) = e in cc)
is_first (pages.Undo x) e = absurd (let z : ◌≡◌ {A = Option Sort} (Some Undo) (Some First) = e in let y : Undo ≡ First = cc in let w : Undo ≡ First = y in cc)
is_first (pages.First x) e = (x, refl)
is_first (pages.Second x) e = absurd (let z : ◌≡◌ {A = Option Sort} (Some Second) (Some First) = e in let y : Second ≡ First = cc in let w : Second ≡ First = y in cc)
is_first (pages.Third x) e = absurd (let z : ◌≡◌ {A = Option Sort} (Some Third) (Some First) = e in let y : Third ≡ First = cc in let w : Third ≡ First = y in cc)
is_first (pages.Header x) e = absurd (let z : ◌≡◌ {A = Option Sort} None (Some First) = e in cc)
is_first (pages.Rows x) e = absurd (let z : ◌≡◌ {A = Option Sort} (Some Rows) (Some First) = e in let y : Rows ≡ First = cc in let w : Rows ≡ First = y in cc)

pub is_second : (p : Page) → sort_name p ≡ Some Second → (x : Summary) × (p ≡ pages.Second x)
is_second (pages.Zero x) e = absurd (let z : ◌≡◌ {A = Option Sort} (Some Blank) (Some Second) = e in let y : Blank ≡ Second = cc in let w : Blank ≡ Second = y in cc)
is_second (pages.Checkpoint x) e = absurd (let z : ◌≡◌ {A = Option Sort} None (Some Second) = e in cc)
is_second (pages.Txns x) e = absurd (let z : ◌≡◌ {A = Option Sort} (Some Txns) (Some Second) = e in let y : Txns ≡ Second = cc in let w : Txns ≡ Second = y in cc)
is_second (pages.Catalogue x) e = absurd (let z : ◌≡◌ {A = Option Sort} None (Some Second) = e in cc)
is_second (pages.Space x) e = absurd (let z : ◌≡◌ {A = Option Sort} None (Some Second) = e in cc)
is_second (pages.Undo x) e = absurd (let z : ◌≡◌ {A = Option Sort} (Some Undo) (Some Second) = e in let y : Undo ≡ Second = cc in let w : Undo ≡ Second = y in cc)
is_second (pages.First x) e = absurd (let z : ◌≡◌ {A = Option Sort} (Some First) (Some Second) = e in let y : First ≡ Second = cc in let w : First ≡ Second = y in cc)
is_second (pages.Second x) e = (x, refl)
is_second (pages.Third x) e = absurd (let z : ◌≡◌ {A = Option Sort} (Some Third) (Some Second) = e in let y : Third ≡ Second = cc in let w : Third ≡ Second = y in cc)
is_second (pages.Header x) e = absurd (let z : ◌≡◌ {A = Option Sort} None (Some Second) = e in cc)
is_second (pages.Rows x) e = absurd (let z : ◌≡◌ {A = Option Sort} (Some Rows) (Some Second) = e in let y : Rows ≡ Second = cc in let w : Rows ≡ Second = y in cc)

pub is_third : (p : Page) → sort_name p ≡ Some Third → (x : Summary) × (p ≡ pages.Third x)
is_third (pages.Zero x) e = absurd (let z : ◌≡◌ {A = Option Sort} (Some Blank) (Some Third) = e in let y : Blank ≡ Third = cc in let w : Blank ≡ Third = y in cc)
is_third (pages.Checkpoint x) e = absurd (let z : ◌≡◌ {A = Option Sort} None (Some Third) = e in cc)
is_third (pages.Txns x) e = absurd (let z : ◌≡◌ {A = Option Sort} (Some Txns) (Some Third) = e in let y : Txns ≡ Third = cc in let w : Txns ≡ Third = y in cc)
is_third (pages.Catalogue x) e = absurd (let z : ◌≡◌ {A = Option Sort} None (Some Third) = e in cc)
is_third (pages.Space x) e = absurd (let z : ◌≡◌ {A = Option Sort} None (Some Third) = e in cc)
is_third (pages.Undo x) e = absurd (let z : ◌≡◌ {A = Option Sort} (Some Undo) (Some Third) = e in let y : Undo ≡ Third = cc in let w : Undo ≡ Third = y in cc)
is_third (pages.First x) e = absurd (let z : ◌≡◌ {A = Option Sort} (Some First) (Some Third) = e in let y : First ≡ Third = cc in let w : First ≡ Third = y in cc)
is_third (pages.Second x) e = absurd (let z : ◌≡◌ {A = Option Sort} (Some Second) (Some Third) = e in let y : Second ≡ Third = cc in let w : Second ≡ Third = y in cc)
is_third (pages.Third x) e = (x, refl)
is_third (pages.Header x) e = absurd (let z : ◌≡◌ {A = Option Sort} None (Some Third) = e in cc)
is_third (pages.Rows x) e = absurd (let z : ◌≡◌ {A = Option Sort} (Some Rows) (Some Third) = e in let y : Rows ≡ Third = cc in let w : Rows ≡ Third = y in cc)

pub is_zero : (p : Page) → sort_name p ≡ Some Blank → (x : ℕ) × (p ≡ pages.Zero x)
is_zero (pages.Zero x) e = (x, refl)
is_zero (pages.Checkpoint x) e = absurd (let z : ◌≡◌ {A = Option Sort} None (Some Blank) = e in cc)
is_zero (pages.Txns x) e = absurd (let z : ◌≡◌ {A = Option Sort} (Some Txns) (Some Blank) = e in let y : Txns ≡ Blank = cc in let w : Txns ≡ Blank = y in cc)
is_zero (pages.Catalogue x) e = absurd (let z : ◌≡◌ {A = Option Sort} None (Some Blank) = e in cc)
is_zero (pages.Space x) e = absurd (let z : ◌≡◌ {A = Option Sort} None (Some Blank) = e in cc)
is_zero (pages.Undo x) e = absurd (let z : ◌≡◌ {A = Option Sort} (Some Undo) (Some Blank) = e in let y : Undo ≡ Blank = cc in let w : Undo ≡ Blank = y in cc)
is_zero (pages.First x) e = absurd (let z : ◌≡◌ {A = Option Sort} (Some First) (Some Blank) = e in let y : First ≡ Blank = cc in let w : First ≡ Blank = y in cc)
is_zero (pages.Second x) e = absurd (let z : ◌≡◌ {A = Option Sort} (Some Second) (Some Blank) = e in let y : Second ≡ Blank = cc in let w : Second ≡ Blank = y in cc)
is_zero (pages.Third x) e = absurd (let z : ◌≡◌ {A = Option Sort} (Some Third) (Some Blank) = e in let y : Third ≡ Blank = cc in let w : Third ≡ Blank = y in cc)
is_zero (pages.Header x) e = absurd (let z : ◌≡◌ {A = Option Sort} None (Some Blank) = e in cc)
is_zero (pages.Rows x) e = absurd (let z : ◌≡◌ {A = Option Sort} (Some Rows) (Some Blank) = e in let y : Rows ≡ Blank = cc in let w : Rows ≡ Blank = y in cc)

pub the_sort : (sh : Shape) (R : List Record) (d : ℕ) (s : Sort) → AreAllowed sh R → Plain R d → sort_of sh R d ≡ s → sort_name (page_of sh R d) ≡ Some s
the_sort sh R d s h p e = pages_sorted sh R d h p ∙ ap (λ (t : Sort). Some t) e

-- the parts that a step keeps are those that the list says its undo block holds
parts_same : (st : Step) (ps : List RowPart) → map as_kept (held_by st ps) ≡ undo.kept_parts (undo.txn_of st.by) st.previous (length st.parts) ps
parts_same st [] = refl
parts_same st (p ∷ ps) = ap (λ (xs : List Part). record { txn = undo.txn_of st.by; previous = st.previous; dba = p.dba; slot = p.slot; parts = length st.parts; old = p.old } ∷ xs) (parts_same st ps)

-- the blocks that an allowed record names are plain

part_in : (sh : Shape) (R : List Record) (o d : ℕ) (ps : List RowPart) → is_in d (blocks_of ps) ≡ true → Every (λ (q : RowPart). IsRowBlock sh R o q.dba) ps → SomeHome sh R d
part_in sh R o d [] m h = absurd (true≢false (sym m))
part_in sh R o d (q ∷ ps) m h = elim (or_cases (eqb q.dba d) (is_in d (blocks_of ps)) m) [
  | inl y ↦ (o, subst (λ (x : ℕ). IsRowBlock sh R o x) (eqb-true q.dba d y) h.0)
  | inr z ↦ part_in sh R o d ps z h.1
]

back_in : (sh : Shape) (R : List Record) (d : ℕ) (ps : List BackPart) → is_in d (back_blocks ps) ≡ true → Every (λ (q : BackPart). SomeHome sh R q.dba) ps → SomeHome sh R d
back_in sh R d [] m h = absurd (true≢false (sym m))
back_in sh R d (q ∷ ps) m h = elim (or_cases (eqb q.dba d) (is_in d (back_blocks ps)) m) [
  | inl y ↦ subst (SomeHome sh R) (eqb-true q.dba d y) h.0
  | inr z ↦ back_in sh R d ps z h.1
]

one_only : (x d : ℕ) → (eqb x d || false) ≡ true → x ≡ d
one_only x d m = elim (or_cases (eqb x d) false m) [ inl y ↦ eqb-true x d y | inr z ↦ absurd (true≢false (sym z)) ]

named_in : (sh : Shape) (R : List Record) (r : Record) (d : ℕ) → AreAllowed sh (r ∷ R) → is_in d (rows_named (effect_of r)) ≡ true → SomeHome sh R d
named_in sh R (Insert w) d h m = part_in sh R w.obj d w.parts m (step_home sh R (Insert w) (row_step w false) h refl)
named_in sh R (Update w) d h m = part_in sh R w.obj d w.parts m (step_home sh R (Update w) (row_step w false) h refl)
named_in sh R (Migrate w) d h m = part_in sh R w.obj d w.parts m (step_home sh R (Migrate w) (row_step w false) h refl)
named_in sh R (Return w) d h m = part_in sh R w.obj d w.parts m (step_home sh R (Return w) (row_step w false) h refl)
named_in sh R (Delete w) d h m = part_in sh R w.obj d w.parts m (step_home sh R (Delete w) (row_step w true) h refl)
named_in sh R (Move w) d h m = part_in sh R w.obj d w.parts m (step_home sh R (Move w) (move_step w) h refl)
named_in sh R (Back k) d h m = back_in sh R d k.parts m (back_home sh R k h)
named_in sh R (Clean c) d h m = (h.1.kind.obj, subst (λ (x : ℕ). IsRowBlock sh R h.1.kind.obj x) (one_only c.dba d m) h.1.kind.here)
named_in sh R (Table x) d h m = absurd (true≢false (sym m))
named_in sh R (Movement x) d h m = absurd (true≢false (sym m))
named_in sh R (Extend x) d h m = absurd (true≢false (sym m))
named_in sh R (FormatBlock x) d h m = absurd (true≢false (sym m))
named_in sh R (Class x) d h m = absurd (true≢false (sym m))
named_in sh R (Advance x) d h m = absurd (true≢false (sym m))
named_in sh R (Lower x) d h m = absurd (true≢false (sym m))
named_in sh R (Begin x) d h m = absurd (true≢false (sym m))
named_in sh R (Reuse x) d h m = absurd (true≢false (sym m))
named_in sh R (Commit x) d h m = absurd (true≢false (sym m))
named_in sh R (Ended x) d h m = absurd (true≢false (sym m))

-- a row block is no header, where no table waits for its Extend
pub row_plain : (sh : Shape) (R : List Record) (o d : ℕ) → is_shape sh ≡ true → AreAllowed sh R → ((p : ℕ) → IsTable R p → Standing sh R p) → IsRowBlock sh R o d → Plain R d
row_plain sh R o d s h stand x =
    let m = home_in sh R o d x in
    let b = (data_bound sh R o d h m).0 in
    record {
      no_catalogue = λ e. omega (arith, b, e);
      no_space = λ e. omega (arith, b, e);
      no_header = λ e.
          let t = header_table sh R d h e in
          let a = header_at sh R t.obj s h t.table (stand t.obj t.table) in
          a.no_data o d (data_table sh R o d h m) m t.is;
    }

rows_plain : (sh : Shape) (R : List Record) (r : Record) (d : ℕ) → is_shape sh ≡ true → AreAllowed sh (r ∷ R) → is_in d (rows_named (effect_of r)) ≡ true → Plain R d
rows_plain sh R r d s h m =
    let x = named_in sh R r d h m in
    row_plain sh R x.0 d s h.0
    (λ p i. no_wait sh R r p h.1.called_for (λ e is. true≢false (sym m ∙ ap (λ (q : Record). is_in d (rows_named (effect_of q))) is)) (headed sh R p h.0 i)) x.1

in_plain : (sh : Shape) (R : List Record) (d n : ℕ) (x : Option Extent) → is_shape sh ≡ true → AreAllowed sh R → n < 3 → d ≡ block_in sh x n → Plain R d
in_plain sh R d n None s h lt e = low_plain sh R d h (λ k. omega (arith, k, e)) (λ k. omega (arith, k, e)) (omega (arith, e))
in_plain sh R d n (Some x) s h lt e = head_plain sh R x.number n d h (limits sh s) lt e

pub one_plain : (sh : Shape) (R : List Record) → AreAllowed sh R → Plain R 1
one_plain sh R h = low_plain sh R 1 h (λ k. omega (arith, k)) (λ k. omega (arith, k)) (omega arith)

pub undo_plain : (sh : Shape) (R : List Record) (d : ℕ) → AreAllowed sh R → OWN_BLOCKS ≤ d → d < OWN_BLOCKS + sh.undo → Plain R d
undo_plain sh R d h from to = low_plain sh R d h (λ k. omega (arith, k, from)) (λ k. omega (arith, k, from)) to

first_plain : (sh : Shape) (R : List Record) (o b : ℕ) → is_shape sh ≡ true → AreAllowed sh R → is_in b (data_blocks sh R o) ≡ true → Plain R (first_of sh b)
first_plain sh R o b s h m =
    let y = in_data sh 0 (extents_of R o) b m in
    let w = (limits sh s).extent_from in
    let e = first_is sh y.extent b w y.from y.to in
    head_plain sh R y.extent 0 (first_of sh b) h (limits sh s) (omega arith) (omega (arith, e))

-- by what a block is

-- the page of a row block that the record names
rows_fit : (sh : Shape) (R : List Record) (r : Record) (d : ℕ) (P : Page → Type 0) → is_shape sh ≡ true → AreAllowed sh (r ∷ R) → is_in d (rows_named (effect_of r)) ≡ true
    → ((h : RowPage) → rows.EffectFits (effect_of r) h.dba h.block → P (pages.Rows h)) → P (page_of sh R d)
rows_fit sh R r d P s h m f =
    let x = is_rows (page_of sh R d) (the_sort sh R d Rows h.0 (rows_plain sh R r d s h m) ((records_meet_sorts sh R r s h).rows d m)) in
    let y : Says R d (pages.Rows x.0) = subst (Says R d) x.1 (says sh R d) in
    let fit = steps_fit_in_turn sh R r d h m in
    subst P (sym x.1) (f x.0 (subst (λ n. rows.EffectFits (effect_of r) n x.0.block) (sym y.0) (subst (rows.EffectFits (effect_of r) d) (sym y.1) fit)))

-- the page of the undo block that a step names
undo_fit : (sh : Shape) (R : List Record) (r : Record) (st : Step) (P : Page → Type 0) → is_shape sh ≡ true → AreAllowed sh (r ∷ R) → effect_of r ≡ Adds st
    → ((u : UndoPage) → undo.StepFits st u → P (pages.Undo u)) → P (page_of sh R st.undo.block)
undo_fit sh R r st P s h e f =
    let d = st.undo.block in
    let t = undo_takes_parts sh R r st (limits sh s).undo_from h e in
    let x = is_undo (page_of sh R d) (the_sort sh R d Undo h.0 (undo_plain sh R d h.0 t.from t.to) ((records_meet_sorts sh R r s h).undo st e)) in
    let y : Says R d (pages.Undo x.0) = subst (Says R d) x.1 (says sh R d) in
    let old : map as_kept (undo_held R d) ≡ x.0.parts = sym y.1 in
    let new : map as_kept (held_by st st.parts) ≡ undo.parts_of st = parts_same st st.parts in
    let room = subst (λ (ps : List Part). used_by ps + used_by (undo.parts_of st) ≤ BLOCK_ROOM) old (subst (λ (ps : List Part). used_by (map as_kept (undo_held R d)) + used_by ps ≤ BLOCK_ROOM) new t.fits) in
    subst P (sym x.1) (f x.0 (sym y.0, room, subst (λ (ps : List Part). AllByRecursion HasPartForm ps) new t.forms))

-- the page of the transaction table
table_fit : (sh : Shape) (R : List Record) (r : Record) (P : Page → Type 0) → is_shape sh ≡ true → AreAllowed sh (r ∷ R) → changes_table r ≡ true → ((t : TxnTable) → P (pages.Txns t)) → P (page_of sh R 1)
table_fit sh R r P s h c f = let x = is_txns (page_of sh R 1) (the_sort sh R 1 Txns h.0 (one_plain sh R h.0) ((records_meet_sorts sh R r s h).table c)) in subst P (sym x.1) (f x.0)

-- a row record

row_fit : (sh : Shape) (R : List Record) (r : Record) (w : RowBody) (del : Bool) (d : ℕ) (P : Page → Type 0) → is_shape sh ≡ true → AreAllowed sh (r ∷ R) → effect_of r ≡ Adds (row_step w del) → changes_table r ≡ true
    → ((t : TxnTable) → P (pages.Txns t)) → ((u : UndoPage) → undo.StepFits (row_step w del) u → P (pages.Undo u)) → ((h : RowPage) → rows.EffectFits (effect_of r) h.dba h.block → P (pages.Rows h))
    → is_among (touched_by_row w) d ≡ true → P (page_of sh R d)
row_fit sh R r w del d P s h e c ft fu fr m = elim (or_cases (eqb 1 d) (eqb w.undo.block d || is_among (blocks_of w.parts) d) m) [
  | inl y ↦ subst (λ x. P (page_of sh R x)) (eqb-true 1 d y) (table_fit sh R r P s h c ft)
  | inr n ↦ elim (or_cases (eqb w.undo.block d) (is_among (blocks_of w.parts) d) n) [
    | inl y ↦ subst (λ x. P (page_of sh R x)) (eqb-true w.undo.block d y) (undo_fit sh R r (row_step w del) P s h e fu)
    | inr z ↦ rows_fit sh R r d P s h
        (ap (λ x. is_in d (rows_named x)) e ∙ sym (among_same (blocks_of w.parts) d) ∙ z) fr
  ]
]

pub may_migrate : (sh : Shape) (R : List Record) (w : RowBody) → MigrateAllowed sh R w → MayChange R w
may_migrate sh R w (migrates_plain a) = a.change.change
may_migrate sh R w (migrates_again a) = a.change.change

pub may_delete : (sh : Shape) (R : List Record) (w : RowBody) → DeleteAllowed sh R w → MayChange R w
may_delete sh R w (deletes_plain a) = a.change.change
may_delete sh R w (deletes_migrated a) = a.change.change

entry_few : (sh : Shape) (R : List Record) (t i : ℕ) → AreAllowed sh R → entry_of R t ≡ Some i → i < TXN_ENTRIES
entry_few sh R t i h e =
    let w = txn_table sh R h in
    let x = w.entered t (w.entry_begun t i e) in
    let same : x.0 ≡ i = (let z : ◌≡◌ {A = Option ℕ} (Some x.0) (Some i) = sym x.1 ∙ e in cc) in
    subst (λ n. n < TXN_ENTRIES) same x.2

row_entry : (sh : Shape) (R : List Record) (r : Record) (w : RowBody) (del : Bool) → is_shape sh ≡ true → AreAllowed sh (r ∷ R) → effect_of r ≡ Adds (row_step w del) → MayChange R w → RowFits w
row_entry sh R r w del s h e c = (entry_few sh R w.txn w.entry h.0 c.entry, (let t = undo_takes_parts sh R r (row_step w del) (limits sh s).undo_from h e in let f = t.from in omega (arith, f)))

pub taken_entry : (R : List Record) (i c : ℕ) → TakesEntry R i c → i < TXN_ENTRIES
taken_entry R i c (takes_unused x) = x.within
taken_entry R i c (takes_rolled_back x) = x.within
taken_entry R i c (takes_committed x) = x.within

some_or_none : (n : ℕ) → (1 ≤ n) ⊎ (n ≡ 0)
some_or_none zero = inr refl
some_or_none (suc n) = inl (omega arith)

begin_fit : (sh : Shape) (R : List Record) (g : BeginRecord) (lsn d : ℕ) → is_shape sh ≡ true → AreAllowed sh (Begin g ∷ R) → is_among (touched sh (Begin g)) d ≡ true → PageFits (Begin g) (start (Begin g) lsn (page_of sh R d))
begin_fit sh R g lsn d s h m =
    let few = taken_entry R g.entry g.control h.1.kind.entry in
    let made = sorts_are_made sh R s h.0 in
    subst (λ x. PageFits (Begin g) (start (Begin g) lsn (page_of sh R x))) (one_only 1 d m) (elim (some_or_none (txn_count R)) [
      | inl l ↦ let x = is_txns (page_of sh R 1) (the_sort sh R 1 Txns h.0 (one_plain sh R h.0) (made.begun l)) in subst (λ p. PageFits (Begin g) (start (Begin g) lsn p)) (sym x.1) few
      | inr n ↦ let x = is_zero (page_of sh R 1) (the_sort sh R 1 Blank h.0 (one_plain sh R h.0) (made.not_begun n)) in subst (λ p. PageFits (Begin g) (start (Begin g) lsn p)) (sym x.1) few
    ])

reuse_fit : (sh : Shape) (R : List Record) (q : ReuseRecord) (lsn d : ℕ) → is_shape sh ≡ true → AreAllowed sh (Reuse q ∷ R) → 1 ≤ txn_count R → is_among (touched sh (Reuse q)) d ≡ true → PageFits (Reuse q) (start (Reuse q) lsn (page_of sh R d))
reuse_fit sh R q lsn d s h t m =
    let b = reuse_bound sh R q.block (limits sh s).undo_from h.0 h.1.kind.block.next in
    let dba = dba_says R d (page_of sh R d) (says sh R d) in
    elim (cases_Bool (eqb q.block (dba_of (page_of sh R d)))) [
      | inl y ↦ subst (λ (o : Option Page). PageFits (Reuse q) (or_kept o (page_of sh R d))) (sym (cond-true _ _ _ y)) (eqb-true q.block (dba_of (page_of sh R d)) y)
      | inr f ↦
          let one : 1 ≡ d = elim (or_cases (eqb 1 d) (eqb q.block d || false) m) [
            | inl y ↦ eqb-true 1 d y
            | inr z ↦ absurd (true≢false (sym (eq-eqb q.block (dba_of (page_of sh R d)) (one_only q.block d z ∙ sym dba)) ∙ f))
          ] in
          let x = is_txns (page_of sh R 1) (the_sort sh R 1 Txns h.0 (one_plain sh R h.0) ((sorts_are_made sh R s h.0).begun t)) in
          let low = b.0 in
          subst (λ (o : Option Page). PageFits (Reuse q) (or_kept o (page_of sh R d))) (sym (cond-false _ _ _ f)) (subst (λ z. PageFits (Reuse q) (page_of sh R z)) one (subst (PageFits (Reuse q)) (sym x.1) (omega (arith, low))))
    ]

-- bitmaps

-- after an Extend, at a block that is no header
extend_page : (e : ExtendRecord) (p : Page) (s : Sort) → sort_name p ≡ Some s → (s ≡ First) ⊎ ((s ≡ Second) ⊎ (s ≡ Third)) → PageFits (Extend e) p
extend_page e (pages.Zero x) s k c = (let w : Blank ≡ s = (let z : ◌≡◌ {A = Option Sort} (Some Blank) (Some s) = k in cc) in elim c [ inl y ↦ absurd (let z : Blank ≡ First = w ∙ y in cc) | inr v ↦ elim v [ inl y ↦ absurd (let z : Blank ≡ Second = w ∙ y in cc) | inr y ↦ absurd (let z : Blank ≡ Third = w ∙ y in cc) ] ])
extend_page e (pages.Checkpoint x) s k c = absurd (let z : ◌≡◌ {A = Option Sort} None (Some s) = k in cc)
extend_page e (pages.Txns x) s k c = (let w : Txns ≡ s = (let z : ◌≡◌ {A = Option Sort} (Some Txns) (Some s) = k in cc) in elim c [ inl y ↦ absurd (let z : Txns ≡ First = w ∙ y in cc) | inr v ↦ elim v [ inl y ↦ absurd (let z : Txns ≡ Second = w ∙ y in cc) | inr y ↦ absurd (let z : Txns ≡ Third = w ∙ y in cc) ] ])
extend_page e (pages.Catalogue x) s k c = absurd (let z : ◌≡◌ {A = Option Sort} None (Some s) = k in cc)
extend_page e (pages.Space x) s k c = absurd (let z : ◌≡◌ {A = Option Sort} None (Some s) = k in cc)
extend_page e (pages.Undo x) s k c = (let w : Undo ≡ s = (let z : ◌≡◌ {A = Option Sort} (Some Undo) (Some s) = k in cc) in elim c [ inl y ↦ absurd (let z : Undo ≡ First = w ∙ y in cc) | inr v ↦ elim v [ inl y ↦ absurd (let z : Undo ≡ Second = w ∙ y in cc) | inr y ↦ absurd (let z : Undo ≡ Third = w ∙ y in cc) ] ])
extend_page e (pages.First x) s k c = tt
extend_page e (pages.Second x) s k c = tt
extend_page e (pages.Third x) s k c = tt
extend_page e (pages.Header x) s k c = absurd (let z : ◌≡◌ {A = Option Sort} None (Some s) = k in cc)
extend_page e (pages.Rows x) s k c = (let w : Rows ≡ s = (let z : ◌≡◌ {A = Option Sort} (Some Rows) (Some s) = k in cc) in elim c [ inl y ↦ absurd (let z : Rows ≡ First = w ∙ y in cc) | inr v ↦ elim v [ inl y ↦ absurd (let z : Rows ≡ Second = w ∙ y in cc) | inr y ↦ absurd (let z : Rows ≡ Third = w ∙ y in cc) ] ])

extend_sorted : (sh : Shape) (R : List Record) (e : ExtendRecord) (d : ℕ) (s : Sort) → AreAllowed sh (Extend e ∷ R) → Plain (Extend e ∷ R) d → is_among (touched sh (Extend e)) d ≡ true → sort_of sh (Extend e ∷ R) d ≡ s → sort_name (start (Extend e) (suc (length R)) (page_of sh R d)) ≡ Some s
extend_sorted sh R e d s h p m k =
    sym (after_sort (Extend e) (suc (length R)) (start (Extend e) (suc (length R)) (page_of sh R d))) ∙ ap sort_name (sym (cond-true _ _ _ m)) ∙ the_sort sh (Extend e ∷ R) d s h p k

space_extend : (R : List Record) (e : ExtendRecord) (lsn : ℕ) (p : Page) → e.extent < 2043 → IsSpace R p → PageFits (Extend e) (or_kept (as_space p) p)
space_extend R e lsn (pages.Zero x) lt h = lt
space_extend R e lsn (pages.Checkpoint x) lt h = absurd h
space_extend R e lsn (pages.Txns x) lt h = absurd h
space_extend R e lsn (pages.Catalogue x) lt h = absurd h
space_extend R e lsn (pages.Space x) lt h = lt
space_extend R e lsn (pages.Undo x) lt h = absurd h
space_extend R e lsn (pages.First x) lt h = absurd h
space_extend R e lsn (pages.Second x) lt h = absurd h
space_extend R e lsn (pages.Third x) lt h = absurd h
space_extend R e lsn (pages.Header x) lt h = absurd h
space_extend R e lsn (pages.Rows x) lt h = absurd h

header_extend : (R : List Record) (e : ExtendRecord) (o : ℕ) (p : Page) → length (extents_of R o) < MOST_EXTENTS → SaysHeader R o p → PageFits (Extend e) p
header_extend R e o (pages.Zero x) lt h = absurd h
header_extend R e o (pages.Checkpoint x) lt h = absurd h
header_extend R e o (pages.Txns x) lt h = absurd h
header_extend R e o (pages.Catalogue x) lt h = absurd h
header_extend R e o (pages.Space x) lt h = absurd h
header_extend R e o (pages.Undo x) lt h = absurd h
header_extend R e o (pages.First x) lt h = absurd h
header_extend R e o (pages.Second x) lt h = absurd h
header_extend R e o (pages.Third x) lt h = absurd h
header_extend R e o (pages.Header x) lt h = (let n : length x.extents ≡ length (extents_of R o) = ap (λ (xs : List ℕ). length xs) h.extents ∙ length-map (extents_of R o) (λ (y : Extent). y.number) in omega (arith, n, lt))
header_extend R e o (pages.Rows x) lt h = absurd h

pub few_extents : (sh : Shape) (x : ℕ) → Limits sh → is_extent sh x ≡ true → x < 2043
few_extents sh x l e =
    let k = leb-true (first_block sh x + sh.extent) sh.blocks e in
    let f = l.extent_from in
    let m = l.most in
    let u = l.undo_from in
    let w : x * LEAST_EXTENT_BLOCKS ≤ x * sh.extent = mul-le-mul_left x f in
    omega (arith, k, f, m, u, w)

extend_fit : (sh : Shape) (R : List Record) (e : ExtendRecord) (d : ℕ) → is_shape sh ≡ true → AreAllowed sh (Extend e ∷ R) → is_among (touched sh (Extend e)) d ≡ true → PageFits (Extend e) (start (Extend e) (suc (length R)) (page_of sh R d))
extend_fit sh R e d s h m =
    let a = h.1.kind in
    let lsn = suc (length R) in
    let p = page_of sh R d in
    let k = (records_meet_sorts sh R (Extend e) s h).extend e refl in
    let lim = limits sh s in
    let b = first_block sh e.extent in
    let most = lim.most in
    let whole = (and_parts (is_extent sh e.extent) _ a.extent.free).0 in
    let free = leb-true (first_block sh e.extent + sh.extent) sh.blocks whole in
    let small : min b 4294967295 ≡ b = omega (arith, free, most) in
    let S : List Record = Extend e ∷ R in
    let dba : dba_of p ≡ d = dba_says R d p (says sh R d) in
    elim (or_cases (eqb 3 d) _ m) [
      | inl y ↦
          let three : d ≡ 3 = sym (eqb-true 3 d y) in
          subst (λ (o : Option Page). PageFits (Extend e) (or_kept o p)) (sym (cond-true _ _ _ (eq-eqb (dba_of p) 3 (dba ∙ three))))
          (space_extend R e lsn p (few_extents sh e.extent lim whole) (subst (λ (x : ℕ). IsSpace R (page_of sh R x)) (sym three) (space_stands sh R s h.0)))
      | inr n ↦ elim (or_cases (eqb e.header d) _ n) [
        | inl y ↦
            let at : e.header ≡ d = eqb-true e.header d y in
            let own : d ≡ stated_header R e.obj = sym at ∙ extend_header sh R e h in
            let x : SaysHeader R e.obj p = subst (λ (q : ℕ). SaysHeader R e.obj (page_of sh R q)) (sym own) (headers_say sh R e.obj s h.0 a.table) in
            subst (PageFits (Extend e)) (sym (extend_starts e lsn p (λ z. high_header sh R e.obj (headed sh R e.obj h.0 a.table) (sym own ∙ sym dba ∙ z)) (dba ∙ sym at)))
            (header_extend R e e.obj p (let i = a.index in let f = a.few in omega (arith, i, f)) x)
        | inr v ↦ elim (or_cases (eqb e.l2 d) (eqb e.l3 d || (eqb (min b 4294967295) d || false)) v) [
          | inl y ↦
              let same = eqb-true e.l2 d y in
              extend_page e (start (Extend e) lsn p) Second (extend_sorted sh R e d Second h (in_plain sh S d 1 (extent_at (extents_of S e.obj) (group_start e.index)) s h (omega arith) (sym same ∙ a.l2)) m (subst (λ x. sort_of sh S x ≡ Second) same k.0)) (inr (inl refl))
          | inr w ↦ elim (or_cases (eqb e.l3 d) (eqb (min b 4294967295) d || false) w) [
            | inl y ↦
                let same = eqb-true e.l3 d y in
                extend_page e (start (Extend e) lsn p) Third (extend_sorted sh R e d Third h (in_plain sh S d 2 (extent_at (extents_of S e.obj) 0) s h (omega arith) (sym same ∙ a.l3)) m (subst (λ x. sort_of sh S x ≡ Third) same k.1)) (inr (inr refl))
            | inr z ↦
                let same : b ≡ d = sym small ∙ one_only (min b 4294967295) d z in
                extend_page e (start (Extend e) lsn p) First (extend_sorted sh R e d First h (head_plain sh S e.extent 0 d h lim (omega arith) (omega (arith, same))) m (subst (λ x. sort_of sh S x ≡ First) same k.2)) (inl refl)
          ]
        ]
      ]
    ]

-- the bitmaps of a data block b
maps_fit : (sh : Shape) (R : List Record) (b l2 l3 index d : ℕ) (P : Page → Type 0) → AreAllowed sh R → (Plain R l2) × (Plain R l3) × (Plain R (first_of sh b)) → MapsFit sh R b l2 l3 index → ((m : ExtentMap) → (m.dba ≤ b) × (b - m.dba < 64) → P (pages.First m)) → ((m : Summary) → P (pages.Second m)) → ((m : Summary) → P (pages.Third m))
    → is_among (l2 ∷ l3 ∷ first_of sh b ∷ []) d ≡ true → P (page_of sh R d)
maps_fit sh R b l2 l3 index d P h q k f2 f3 f4 m = elim (or_cases (eqb l2 d) (eqb l3 d || (eqb (first_of sh b) d || false)) m) [
  | inl y ↦ let x = is_second (page_of sh R l2) (the_sort sh R l2 Second h q.0 k.second) in subst (λ z. P (page_of sh R z)) (eqb-true l2 d y) (subst P (sym x.1) (f3 x.0))
  | inr n ↦ elim (or_cases (eqb l3 d) (eqb (first_of sh b) d || false) n) [
    | inl y ↦ let x = is_third (page_of sh R l3) (the_sort sh R l3 Third h q.1 k.third) in subst (λ z. P (page_of sh R z)) (eqb-true l3 d y) (subst P (sym x.1) (f4 x.0))
    | inr z ↦
        let c = first_of sh b in
        let x = is_first (page_of sh R c) (the_sort sh R c First h q.2 k.first) in
        let dba : x.0.dba ≡ c = subst (Says R c) x.1 (says sh R c) in
        subst (λ w. P (page_of sh R w)) (one_only c d z) (subst P (sym x.1) (f2 x.0 (subst (λ w. w ≤ b) (sym dba) k.from, subst (λ w. b - w < MOST_EXTENT_BLOCKS) (sym dba) k.to)))
  ]
]

maps_plain : (sh : Shape) (R : List Record) (o b l2 l3 index : ℕ) → is_shape sh ≡ true → AreAllowed sh R → StatesBitmaps sh R o b l2 l3 index → is_in b (data_blocks sh R o) ≡ true → (Plain R l2) × (Plain R l3) × (Plain R (first_of sh b))
maps_plain sh R o b l2 l3 index s h a here = (in_plain sh R l2 1 (extent_at (extents_of R o) (group_start index)) s h (omega arith) a.l2_is, in_plain sh R l3 2 (extent_at (extents_of R o) 0) s h (omega arith) a.l3_is, first_plain sh R o b s h here)

format_fit : (sh : Shape) (R : List Record) (f : FormatBlockRecord) (lsn d : ℕ) → is_shape sh ≡ true → AreAllowed sh (FormatBlock f ∷ R) → is_among (touched sh (FormatBlock f)) d ≡ true → PageFits (FormatBlock f) (start (FormatBlock f) lsn (page_of sh R d))
format_fit sh R f lsn d s h m =
    let p = page_of sh R d in
    let k = (records_meet_sorts sh R (FormatBlock f) s h).format f refl in
    let b1 = l1_best_bound sh (FormatBlock f ∷ R) f.obj f.index in
    let b2 = l2_best_bound sh (FormatBlock f ∷ R) f.obj (group_start f.index) in
    let e1 = h.1.kind.bests.l1 in
    let e2 = h.1.kind.bests.l2 in
    let dba = dba_says R d p (says sh R d) in
    elim (cases_Bool (eqb f.dba (dba_of p))) [
      | inl y ↦ subst (λ (o : Option Page). PageFits (FormatBlock f) (or_kept o p)) (sym (cond-true _ _ _ y)) (eqb-true f.dba (dba_of p) y)
      | inr n ↦ subst (λ (o : Option Page). PageFits (FormatBlock f) (or_kept o p)) (sym (cond-false _ _ _ n))
          (maps_fit sh R f.dba f.l2 f.l3 f.index d (PageFits (FormatBlock f)) h.0 (maps_plain sh R f.obj f.dba f.l2 f.l3 f.index s h.0 h.1.kind.bitmaps (in_take f.dba (high_mark R f.obj) (data_blocks sh R f.obj) (format_first sh R f h.1.kind).0)) k (λ x w. w) (λ x. omega (arith, b1, e1)) (λ x. (k.few, (omega (arith, b2, e2))))
          (elim (or_cases (eqb f.dba d) (is_among (f.l2 ∷ f.l3 ∷ first_of sh f.dba ∷ []) d) m) [
            | inl z ↦ absurd (true≢false (sym (eq-eqb f.dba (dba_of p) (eqb-true f.dba d z ∙ sym dba)) ∙ n))
            | inr z ↦ z
          ]))
    ]

class_fit : (sh : Shape) (R : List Record) (c : ClassRecord) (d : ℕ) → is_shape sh ≡ true → AreAllowed sh (Class c ∷ R) → is_among (touched sh (Class c)) d ≡ true → PageFits (Class c) (page_of sh R d)
class_fit sh R c d s h m =
    let k = (records_meet_sorts sh R (Class c) s h).class c refl in
    let b1 = l1_best_bound sh (Class c ∷ R) c.obj c.index in
    let b2 = l2_best_bound sh (Class c ∷ R) c.obj (group_start c.index) in
    let e1 = h.1.kind.bests.l1 in
    let e2 = h.1.kind.bests.l2 in
    maps_fit sh R c.dba c.l2 c.l3 c.index d (PageFits (Class c)) h.0 (maps_plain sh R c.obj c.dba c.l2 c.l3 c.index s h.0 h.1.kind.bitmaps (home_in sh R c.obj c.dba h.1.kind.here)) k (λ x w. w) (λ x. omega (arith, b1, e1)) (λ x. (k.few, (omega (arith, b2, e2)))) m

-- a Back

last_block : (sh : Shape) (R : List Record) (ss : List Step) (t : ℕ) → Every (InRing sh) ss → UndoIsBlock (undo_of_step (newest_of ss t))
last_block sh R ss t h = go (newest_of ss t) refl
  where
    go : (o : Option Step) → newest_of ss t ≡ o → UndoIsBlock (undo_of_step o)
    go None e = tt
    go (Some st) e = (let r = (newest_has (InRing sh) ss t st e h).0 in omega (arith, r))

back_fit : (sh : Shape) (R : List Record) (k : BackRecord) (d : ℕ) → is_shape sh ≡ true → AreAllowed sh (Back k ∷ R) → is_among (touched sh (Back k)) d ≡ true → PageFits (Back k) (page_of sh R d)
back_fit sh R k d s h m =
    let a = h.1.kind in
    let last : UndoIsBlock k.last = subst UndoIsBlock (sym a.last) (last_block sh R (without_step k.undo (standing R)) k.txn (every-filter _ _ (standing R) (in_ring sh R (limits sh s).undo_from h.0))) in
    elim (or_cases (eqb 1 d) (is_among (back_blocks k.parts) d) m) [
      | inl y ↦ subst (λ x. PageFits (Back k) (page_of sh R x)) (eqb-true 1 d y) (table_fit sh R (Back k) (PageFits (Back k)) s h refl (λ t. (entry_few sh R k.txn k.entry h.0 a.entry, last)))
      | inr z ↦ rows_fit sh R (Back k) d (PageFits (Back k)) s h (sym (among_same (back_blocks k.parts) d) ∙ z) (λ x y. y)
    ]

move_fit : (sh : Shape) (R : List Record) (v : MoveRecord) (d : ℕ) → is_shape sh ≡ true → AreAllowed sh (Move v ∷ R) → is_among (touched sh (Move v)) d ≡ true → PageFits (Move v) (page_of sh R d)
move_fit sh R v d s h m = elim (or_cases (eqb v.undo.block d) (is_among (blocks_of v.parts) d) m) [
  | inl y ↦ subst (λ x. PageFits (Move v) (page_of sh R x)) (eqb-true v.undo.block d y) (undo_fit sh R (Move v) (move_step v) (PageFits (Move v)) s h refl (λ u x. x))
  | inr z ↦ rows_fit sh R (Move v) d (PageFits (Move v)) s h (sym (among_same (blocks_of v.parts) d) ∙ z) (λ x y. y)
]

-- records of tables

table_catalogue : (t : TableRecord) (p : Page) → (1 ≤ t.obj) × (t.obj ≤ MOST_TABLES) → IsCatalogue p → PageFits (Table t) (or_kept (as_catalogue p) p)
table_catalogue t (pages.Zero x) f h = f
table_catalogue t (pages.Checkpoint x) f h = absurd h
table_catalogue t (pages.Txns x) f h = absurd h
table_catalogue t (pages.Catalogue x) f h = f
table_catalogue t (pages.Space x) f h = absurd h
table_catalogue t (pages.Undo x) f h = absurd h
table_catalogue t (pages.First x) f h = absurd h
table_catalogue t (pages.Second x) f h = absurd h
table_catalogue t (pages.Third x) f h = absurd h
table_catalogue t (pages.Header x) f h = absurd h
table_catalogue t (pages.Rows x) f h = absurd h

table_kind_fit : (sh : Shape) (R : List Record) (t : TableRecord) (d : ℕ) → is_shape sh ≡ true → AreAllowed sh (Table t ∷ R) → is_among (touched sh (Table t)) d ≡ true → PageFits (Table t) (start (Table t) (suc (length R)) (page_of sh R d))
table_kind_fit sh R t d s h m =
    let a = h.1.kind in
    let n = a.number in
    let f = a.few in
    let p = page_of sh R d in
    let dba : dba_of p ≡ d = dba_says R d p (says sh R d) in
    elim (cases_Bool (eqb (dba_of p) 2)) [
      | inl y ↦ subst (λ (o : Option Page). PageFits (Table t) (or_kept o p)) (sym (cond-true _ _ _ y))
          (table_catalogue t p (omega (arith, n, f), omega (arith, n, f)) (subst (λ (x : ℕ). IsCatalogue (page_of sh R x)) (sym (eqb-true (dba_of p) 2 y) ∙ dba) (catalogue_stands sh R s h.0)))
      | inr o ↦ subst (λ (q : Option Page). PageFits (Table t) (or_kept q p)) (sym (cond-false _ _ _ o)) (omega (arith, n, f), omega (arith, n, f), a.pctfree)
    ]

movement_page : (R : List Record) (m : MovementRecord) (o : ℕ) (p : Page) → SaysHeader R o p → PageFits (Movement m) p
movement_page R m o (pages.Zero x) h = absurd h
movement_page R m o (pages.Checkpoint x) h = absurd h
movement_page R m o (pages.Txns x) h = absurd h
movement_page R m o (pages.Catalogue x) h = absurd h
movement_page R m o (pages.Space x) h = absurd h
movement_page R m o (pages.Undo x) h = absurd h
movement_page R m o (pages.First x) h = absurd h
movement_page R m o (pages.Second x) h = absurd h
movement_page R m o (pages.Third x) h = absurd h
movement_page R m o (pages.Header x) h = tt
movement_page R m o (pages.Rows x) h = absurd h

advance_page : (R : List Record) (m : AdvanceRecord) (o : ℕ) (p : Page) → SaysHeader R o p → PageFits (Advance m) p
advance_page R m o (pages.Zero x) h = absurd h
advance_page R m o (pages.Checkpoint x) h = absurd h
advance_page R m o (pages.Txns x) h = absurd h
advance_page R m o (pages.Catalogue x) h = absurd h
advance_page R m o (pages.Space x) h = absurd h
advance_page R m o (pages.Undo x) h = absurd h
advance_page R m o (pages.First x) h = absurd h
advance_page R m o (pages.Second x) h = absurd h
advance_page R m o (pages.Third x) h = absurd h
advance_page R m o (pages.Header x) h = tt
advance_page R m o (pages.Rows x) h = absurd h

lower_page : (R : List Record) (m : LowerRecord) (o : ℕ) (p : Page) → SaysHeader R o p → PageFits (Lower m) p
lower_page R m o (pages.Zero x) h = absurd h
lower_page R m o (pages.Checkpoint x) h = absurd h
lower_page R m o (pages.Txns x) h = absurd h
lower_page R m o (pages.Catalogue x) h = absurd h
lower_page R m o (pages.Space x) h = absurd h
lower_page R m o (pages.Undo x) h = absurd h
lower_page R m o (pages.First x) h = absurd h
lower_page R m o (pages.Second x) h = absurd h
lower_page R m o (pages.Third x) h = absurd h
lower_page R m o (pages.Header x) h = tt
lower_page R m o (pages.Rows x) h = absurd h

-- the page of the header that a record names
named_header : (sh : Shape) (R : List Record) (r : Record) (o b d : ℕ) (P : Page → Type 0) → is_shape sh ≡ true → AreAllowed sh (r ∷ R) → IsTable R o → ((e : ExtendRecord) → r ≡ Extend e → ⊥) → b ≡ header_of sh (extents_of R o) → b ≡ d → ((p : Page) → SaysHeader R o p → P p) → P (page_of sh R d)
named_header sh R r o b d P s h i plain is at f =
    let same : stated_header R o ≡ d = sym (model_header sh R r o o h i plain (eq-eqb o o refl)) ∙ sym is ∙ at in
    f (page_of sh R d) (subst (λ (x : ℕ). SaysHeader R o (page_of sh R x)) same (headers_say sh R o s h.0 i))

space_lower : (R : List Record) (l : LowerRecord) (p : Page) → (extents_of R l.obj ≡ [] → ⊥) → AreCovered l.released → IsSpace R p → PageFits (Lower l) p
space_lower R l (pages.Zero x) some c h = absurd (some (h l.obj))
space_lower R l (pages.Checkpoint x) some c h = absurd h
space_lower R l (pages.Txns x) some c h = absurd h
space_lower R l (pages.Catalogue x) some c h = absurd h
space_lower R l (pages.Space x) some c h = c
space_lower R l (pages.Undo x) some c h = absurd h
space_lower R l (pages.First x) some c h = absurd h
space_lower R l (pages.Second x) some c h = absurd h
space_lower R l (pages.Third x) some c h = absurd h
space_lower R l (pages.Header x) some c h = absurd h
space_lower R l (pages.Rows x) some c h = absurd h

pub covered : (sh : Shape) (es : List Extent) → Limits sh → ((x : ℕ) → has_extent es x ≡ true → is_extent sh x ≡ true) → AreCovered (map (λ (e : Extent). e.number) es)
covered sh [] l w = tt
covered sh (e ∷ es) l w = (few_extents sh e.number l (w e.number (or_left (eqb e.number e.number) _ (eq-eqb e.number e.number refl))), covered sh es l (λ x k. w x (or_right (eqb e.number x) _ k)))

pub has_dropped : (n : ℕ) (es : List Extent) (x : ℕ) → has_extent (drop n es) x ≡ true → has_extent es x ≡ true
has_dropped zero es x h = h
has_dropped (suc n) [] x h = h
has_dropped (suc n) (e ∷ es) x h = or_right (eqb e.number x) _ (has_dropped n es x h)

-- the second level of a group that is kept
lower_second : (sh : Shape) (R : List Record) (l : LowerRecord) (d i : ℕ) (os : List (Option ℕ)) → is_shape sh ≡ true → AreAllowed sh R → group_start i ≡ i
    → (is_among (those os) d ≡ true → PageFits (Lower l) (page_of sh R d)) → is_among (those (l2_at sh (extent_at (take l.kept (extents_of R l.obj)) i) ∷ os)) d ≡ true → PageFits (Lower l) (page_of sh R d)
lower_second sh R l d i os s h g f m = go (extent_at (take l.kept (extents_of R l.obj)) i) refl m
  where
    go : (o : Option Extent) → extent_at (take l.kept (extents_of R l.obj)) i ≡ o → is_among (those (l2_at sh o ∷ os)) d ≡ true → PageFits (Lower l) (page_of sh R d)
    go None e n = f n
    go (Some x) e n = elim (or_cases (eqb (first_block sh x.number + 1) d) (is_among (those os) d) n) [
      | inr z ↦ f z
      | inl y ↦
          let same : first_block sh x.number + 1 ≡ d = eqb-true (first_block sh x.number + 1) d y in
          let at = (at_in_taken l.kept (extents_of R l.obj) i x e).0 in
          let k = is_second (page_of sh R d) (the_sort sh R d Second h (head_plain sh R x.number 1 d h (limits sh s) (omega arith) (sym same)) (subst (λ (b : ℕ). sort_of sh R b ≡ Second) same ((sorts_are_made sh R s h).second l.obj i x at g))) in
          subst (PageFits (Lower l)) (sym k.1) tt
    ]

lower_third : (sh : Shape) (R : List Record) (l : LowerRecord) (d : ℕ) → is_shape sh ≡ true → AreAllowed sh (Lower l ∷ R) → l.l3 ≡ d → PageFits (Lower l) (page_of sh R d)
lower_third sh R l d s h at =
    let a = h.1.kind in
    let es = extents_of R l.obj in
    let none = a.not_none in
    let z = at_exists es 0 (omega (arith, none)) in
    let is : d ≡ first_block sh z.0.number + 2 = sym at ∙ a.l3 ∙ ap (λ (x : Option Extent). block_in sh x 2) z.1 in
    let k = is_third (page_of sh R d) (the_sort sh R d Third h.0 (head_plain sh R z.0.number 2 d h.0 (limits sh s) (omega arith) is) (subst (λ (b : ℕ). sort_of sh R b ≡ Third) (sym is) ((sorts_are_made sh R s h.0).third l.obj z.0 z.1))) in
    let b0 = l2_best_bound sh (Lower l ∷ R) l.obj 0 in
    let b1 = l2_best_bound sh (Lower l ∷ R) l.obj EXTENTS_OF_L2 in
    let b2 = l2_best_bound sh (Lower l ∷ R) l.obj (2 * EXTENTS_OF_L2) in
    let e0 : slice_index l.bests 0 ≡ best_in_l2 sh (Lower l ∷ R) l.obj 0 = ap (λ (xs : List ℕ). slice_index xs 0) a.bests in
    let e1 : slice_index l.bests 1 ≡ best_in_l2 sh (Lower l ∷ R) l.obj EXTENTS_OF_L2 = ap (λ (xs : List ℕ). slice_index xs 1) a.bests in
    let e2 : slice_index l.bests 2 ≡ best_in_l2 sh (Lower l ∷ R) l.obj (2 * EXTENTS_OF_L2) = ap (λ (xs : List ℕ). slice_index xs 2) a.bests in
    subst (PageFits (Lower l)) (sym k.1) (omega (arith, b0, e0), omega (arith, b1, e1), omega (arith, b2, e2))

lower_fit : (sh : Shape) (R : List Record) (l : LowerRecord) (d : ℕ) → is_shape sh ≡ true → AreAllowed sh (Lower l ∷ R) → is_among (touched sh (Lower l)) d ≡ true → PageFits (Lower l) (page_of sh R d)
lower_fit sh R l d s h m =
    let a = h.1.kind in
    let es = extents_of R l.obj in
    let lim = limits sh s in
    let whole = (placed sh R l.obj h.0).whole in
    let plain : (e : ExtendRecord) → Lower l ≡ Extend e → ⊥ = λ e is. (let z : Lower l ≡ Extend e = is in cc) in
    let none = a.not_none in
    elim (or_cases (eqb 3 d) _ m) [
      | inl y ↦ subst (λ (x : ℕ). PageFits (Lower l) (page_of sh R x)) (eqb-true 3 d y)
          (space_lower R l (page_of sh R 3) (λ e. (let n : length es ≡ 0 = ap (λ (xs : List Extent). length xs) e in omega (arith, n, none)))
          (subst AreCovered (sym a.released) (covered sh (drop l.kept es) lim (λ x k. whole x (has_dropped l.kept es x k)))) (space_stands sh R s h.0))
      | inr n ↦ elim (or_cases (eqb l.header d) _ n) [
        | inl y ↦ named_header sh R (Lower l) l.obj l.header d (PageFits (Lower l)) s h a.table plain a.header (eqb-true l.header d y) (lower_page R l l.obj)
        | inr v ↦ elim (or_cases (eqb l.l3 d) _ v) [
          | inl y ↦ lower_third sh R l d s h (eqb-true l.l3 d y)
          | inr w ↦
              let q : is_among (those (l2_at sh (extent_at (take l.kept es) 0) ∷ l2_at sh (extent_at (take l.kept es) EXTENTS_OF_L2) ∷ l2_at sh (extent_at (take l.kept es) (2 * EXTENTS_OF_L2)) ∷ [])) d ≡ true = ap (λ (os : List (Option ℕ)). is_among (those os) d) (sym a.l2) ∙ w in
              lower_second sh R l d 0 _ s h.0 refl (lower_second sh R l d EXTENTS_OF_L2 _ s h.0 refl (lower_second sh R l d (2 * EXTENTS_OF_L2) [] s h.0 refl (λ z. absurd (true≢false (sym z))))) q
        ]
      ]
    ]

kinds_fit : (sh : Shape) (R : List Record) (r : Record) (d : ℕ) → is_shape sh ≡ true → AreAllowed sh (r ∷ R) → IsKindAllowed sh R r → IsTabled R r → is_among (touched sh r) d ≡ true → PageFits r (start r (suc (length R)) (page_of sh R d))
kinds_fit sh R (Table t) d s h a t' m = table_kind_fit sh R t d s h m
kinds_fit sh R (Movement t) d s h a t' m = named_header sh R (Movement t) t.obj t.header d (PageFits (Movement t)) s h a.table (λ e is. (let z : Movement t ≡ Extend e = is in cc)) a.header (one_only t.header d m) (movement_page R t t.obj)
kinds_fit sh R (Advance t) d s h a t' m = named_header sh R (Advance t) t.obj t.header d (PageFits (Advance t)) s h a.table (λ e is. (let z : Advance t ≡ Extend e = is in cc)) a.header (one_only t.header d m) (advance_page R t t.obj)
kinds_fit sh R (Lower t) d s h a t' m = lower_fit sh R t d s h m
kinds_fit sh R (Extend e) d s h a t' m = extend_fit sh R e d s h m
kinds_fit sh R (FormatBlock f) d s h a t' m = format_fit sh R f (suc (length R)) d s h m
kinds_fit sh R (Class k) d s h a t' m = class_fit sh R k d s h m
kinds_fit sh R (Begin g) d s h a t' m = begin_fit sh R g (suc (length R)) d s h m
kinds_fit sh R (Reuse q) d s h a t' m = reuse_fit sh R q (suc (length R)) d s h t' m
kinds_fit sh R (Insert w) d s h a t' m = row_fit sh R (Insert w) w false d (PageFits (Insert w)) s h refl refl (λ t. row_entry sh R (Insert w) w false s h refl a.change) (λ u x. x) (λ y x. x) m
kinds_fit sh R (Update w) d s h a t' m = row_fit sh R (Update w) w false d (PageFits (Update w)) s h refl refl (λ t. row_entry sh R (Update w) w false s h refl a.change.change) (λ u x. x) (λ y x. x) m
kinds_fit sh R (Migrate w) d s h a t' m = row_fit sh R (Migrate w) w false d (PageFits (Migrate w)) s h refl refl (λ t. row_entry sh R (Migrate w) w false s h refl (may_migrate sh R w a)) (λ u x. x) (λ y x. x) m
kinds_fit sh R (Return w) d s h a t' m = row_fit sh R (Return w) w false d (PageFits (Return w)) s h refl refl (λ t. row_entry sh R (Return w) w false s h refl a.change.change) (λ u x. x) (λ y x. x) m
kinds_fit sh R (Delete w) d s h a t' m = row_fit sh R (Delete w) w true d (PageFits (Delete w)) s h refl refl (λ t. row_entry sh R (Delete w) w true s h refl (may_delete sh R w a)) (λ u x. x) (λ y x. x) m
kinds_fit sh R (Commit c) d s h a t' m = subst (λ x. PageFits (Commit c) (page_of sh R x)) (one_only 1 d m) (table_fit sh R (Commit c) (PageFits (Commit c)) s h refl (λ t. entry_few sh R c.txn c.entry h.0 a.entry))
kinds_fit sh R (Back k) d s h a t' m = back_fit sh R k d s h m
kinds_fit sh R (Ended c) d s h a t' m = subst (λ x. PageFits (Ended c) (page_of sh R x)) (one_only 1 d m) (table_fit sh R (Ended c) (PageFits (Ended c)) s h refl (λ t. entry_few sh R c.txn c.entry h.0 a.entry))
kinds_fit sh R (Move v) d s h a t' m = move_fit sh R v d s h m
kinds_fit sh R (Clean c) d s h a t' m = rows_fit sh R (Clean c) d (PageFits (Clean c)) s h m (λ x y. y)

pub records_fit_pages : RecordsFitPages
records_fit_pages sh R r d s h t m = kinds_fit sh R r d s h h.1.kind t m

pub stands_whole : (sh : Shape) (R : List Record) (o : ℕ) → is_whole R ≡ true → Headed sh R o → Standing sh R o
stands_whole sh R o w (inl z) = z
stands_whole sh R o w (inr a) = absurd (true≢false (sym w ∙ ap is_whole a.is))

pub formatted_blocks_have_rows : FormattedBlocksHaveRows
formatted_blocks_have_rows sh R o b s h w x =
    let p = row_plain sh R o b s h (λ t i. stands_whole sh R t w (headed sh R t h i)) x in
    let k = is_rows (page_of sh R b) (the_sort sh R b Rows h p ((sorts_are_made sh R s h).formatted b x.formatted)) in
    subst HasRows (sym k.1) tt
