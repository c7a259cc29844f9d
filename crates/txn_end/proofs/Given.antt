-- What the pages of a true store answer to the questions of a rollback.
use Rattle.std.proofs.Common.{◌≡◌, ℕ, zero, suc, ◌+◌, ◌<◌, ◌≤◌, Bool, true, false, cond, not, eqb, nat_lt, ◌&&◌, ◌||◌, List, [], ◌∷◌, length, map, slice_get, get_or, option_map, position, Option, Some, None, refl, sym, ◌∙◌, ap, subst, arith, inl, inr, eq-eqb, ne_eqb, lt-ltb}
use Rattle.seg_words.proofs.Lemmas.{and_from}
use Rattle.std.proofs.lemmas.Bool.{leb-true}
use Rattle.seg_words.specs.Types.{Shape, Slot, UndoAddr, Block, first_block, entry_for, is_empty, new_slot, is_shape}
use Rattle.segment_blocks.specs.Types.{header_of}
use Rattle.segment_blocks.specs.declared.entry.CatalogueEntry.{CatalogueEntry}
use Rattle.txn_block.specs.Types.{names, last_undo_in}
use Rattle.undo_block.specs.declared.part.Part.{Part}
use Rattle.redo_model.specs.Records.{Record, RowPart}
use Rattle.redo_model.specs.Model.{Step, Extent, is_active, entry_of, last_undo, standing, newest_of, undo_of_step, table_count, IsTable, IsRowBlock, data_blocks, high_mark, under_high, extent_at, has_extent, extents_of, image, block_of, HeldPart, undo_held, undo_sequence, held_at, IsLawful}
use Rattle.redo_model.proofs.Bridge.{image_is}
use Rattle.redo_laws.proofs.numbers.Bounds.{Limits, limits, data_bound}
use Rattle.redo_laws.proofs.space.ApartLaw.{placed}
use Rattle.redo_laws.proofs.space.Places.{in_contains, in_take}
use Rattle.version_laws.specs.Types.{as_kept, IsInUse}
use Rattle.version_laws.proofs.TableLaw.{undo_is, entry_is}
use Rattle.end_laws.specs.Types.{table_place, held_of, PartTold, BackTold}
use Rattle.end_laws.proofs.Allowed.{placed_at}
use Rattle.page_set.specs.declared.page.Page.{Page}
use Rattle.page_set.specs.declared.page.Page.TheVariants.{Zero, Txns, Catalogue, Undo, Header, Rows}
use Rattle.page_set.specs.Folded.{page_of}
use Rattle.page_fit.specs.Headers.{stated_header, SaysHeader}
use Rattle.page_fit.proofs.Headed.{Standing as Standing_at, headed}
use Rattle.page_fit.proofs.FitLaw.{stands_whole}
use Rattle.page_fit.proofs.HeaderLaw.{headers_say}
use Rattle.page_says.specs.Named.{SaysCatalogue}
use Rattle.page_says.proofs.NamedLaw.{catalogues_say}
use Rattle.store_laws.specs.Kinds.{HasTable, HasUndo, HasRowPage}
use Rattle.store_laws.proofs.KindsLaw.{undo_stands, rows_stand}
use Rattle.store_laws.proofs.FoundLaw.{active_have_table}
use Rattle.store_core.specs.Store.{has_page}
use Rattle.txn_end.specs.declared.standing.Standing.{Standing}
use Rattle.txn_end.specs.Reading.{standing_at, standing_in, part_in, sequence_in, none_ended, entry_in, row_with, row_in, header_in, has_number, extent_in}

-- ---- blocks that have pages

page_there : (sh : Shape) (d : ℕ) → d < sh.blocks → (d ≡ 0 → ⊥) → (nat_lt d 4 || nat_lt 36 d) ≡ true → has_page sh d ≡ true
page_there sh d l z m = and_from _ _ (and_from _ _ (lt-ltb d sh.blocks l) (ap not (ne_eqb d 0 z))) m

or_true : (a b : Bool) → b ≡ true → (a || b) ≡ true
or_true true b h = refl
or_true false b h = h

far_there : (sh : Shape) (d : ℕ) → 37 ≤ d → d < sh.blocks → has_page sh d ≡ true
far_there sh d l u = page_there sh d u (λ z. omega (arith, l, z)) (or_true (nat_lt d 4) _ (lt-ltb 36 d (omega (arith, l))))

pub table_there : (sh : Shape) → is_shape sh ≡ true → has_page sh 1 ≡ true
table_there sh s = let l = (limits sh s).all in page_there sh 1 (omega (arith, l)) (λ z. absurd (omega (arith, z))) refl

pub catalogue_there : (sh : Shape) → is_shape sh ≡ true → has_page sh 2 ≡ true
catalogue_there sh s = let l = (limits sh s).all in page_there sh 2 (omega (arith, l)) (λ z. absurd (omega (arith, z))) refl

pub undo_there : (sh : Shape) (R : List Record) (u : ℕ) → is_shape sh ≡ true → IsInUse sh R u → has_page sh u ≡ true
undo_there sh R u s i = let l = (limits sh s).all in let f = i.ring.from in let t = i.ring.to in far_there sh u f (omega (arith, l, t))

pub rows_there : (sh : Shape) (R : List Record) (o b : ℕ) → is_shape sh ≡ true → IsLawful sh R → IsRowBlock sh R o b → has_page sh b ≡ true
rows_there sh R o b s h x =
    let c = x.here in
    let k = data_bound sh R o b h.allowed (in_take b (high_mark R o) (data_blocks sh R o) (in_contains (under_high sh R o) b c.0 c.1 c.2)) in
    far_there sh b k.0 k.1

-- ---- block 1

pub standing_given : (sh : Shape) (R : List Record) (t : ℕ) → is_shape sh ≡ true → IsLawful sh R → is_active R t ≡ true → standing_in (page_of sh R 1) t ≡ Some (record { entry = table_place R t; last = last_undo R t })
standing_given sh R t s h on =
    let k : HasTable sh R = active_have_table sh R t s h.allowed on in
    let e = entry_is sh R k.table t h.allowed k.holds on ∙ placed_at sh R t h on in
    let l = undo_is sh R k.table t h.allowed k.holds on in
    ap (λ (p : Page). standing_in p t) k.page ∙ ap (λ (o : Option ℕ). standing_at o (last_undo_in k.table.entries t)) e ∙ ap (λ (o : Option UndoAddr). some_standing (record { entry = table_place R t; last = o })) l
  where
    some_standing : Standing → Option Standing
    some_standing x = Some x

-- ---- undo

parts_there : (hs : List HeldPart) (n : ℕ) → slice_get (map as_kept hs) n ≡ option_map as_kept (held_at hs n)
parts_there [] n = refl
parts_there (h ∷ hs) zero = refl
parts_there (h ∷ hs) (suc n) = parts_there hs n

pub part_given : (sh : Shape) (R : List Record) (t : ℕ) (st : Step) (i : ℕ) (p : RowPart) → is_shape sh ≡ true → IsLawful sh R → BackTold sh R t st → slice_get st.parts i ≡ Some p → part_in (page_of sh R st.undo.block) (st.undo.nth + i) ≡ Some (as_kept (held_of st p))
part_given sh R t st i p s h told e =
    let k : HasUndo sh R st.undo.block = undo_stands sh R st.undo.block s h.allowed told.in_use in
    let at = (told.part i p e).held in
    ap (λ (x : Page). part_in x (st.undo.nth + i)) k.page ∙ ap (λ (ps : List Part). slice_get ps (st.undo.nth + i)) k.holds.parts ∙ parts_there (undo_held R st.undo.block) (st.undo.nth + i) ∙ ap (option_map as_kept) at

pub sequence_given : (sh : Shape) (R : List Record) (u : ℕ) → is_shape sh ≡ true → IsLawful sh R → IsInUse sh R u → sequence_in (page_of sh R u) ≡ Some (undo_sequence R u)
sequence_given sh R u s h i =
    let k : HasUndo sh R u = undo_stands sh R u s h.allowed i in
    ap sequence_in k.page ∙ ap (λ (n : ℕ). Some n) k.holds.sequence

-- ---- rows

pub entry_given : (sh : Shape) (R : List Record) (t : ℕ) (st : Step) (i : ℕ) (p : RowPart) → is_shape sh ≡ true → IsLawful sh R → (x : PartTold sh R t st i p) → entry_in (page_of sh R p.dba) t ≡ Some x.place
entry_given sh R t st i p s h x =
    let k : HasRowPage sh R p.dba = rows_stand sh R st.obj p.dba s h x.home in
    ap (λ (y : Page). entry_in y t) k.page ∙ ap (λ (b : Block). entry_for none_ended b t) k.holds.block ∙ x.enters none_ended

pub row_given : (sh : Shape) (R : List Record) (o b k before : ℕ) → is_shape sh ≡ true → IsLawful sh R → IsRowBlock sh R o b → row_in (page_of sh R b) k before ≡ Some (row_with (image R b k) before)
row_given sh R o b k before s h x =
    let g : HasRowPage sh R b = rows_stand sh R o b s h x in
    ap (λ (y : Page). row_in y k before) g.page ∙ ap (λ (c : Block). Some (row_with (get_or c.slots k new_slot) before)) g.holds.block ∙ ap (λ (i : Slot). Some (row_with i before)) (image_is R b k)

-- ---- tables

header_is : (sh : Shape) (R : List Record) (o : ℕ) (p : Page) → SaysCatalogue sh R p → IsTable R o → header_in p o ≡ Some (Some (stated_header R o))
header_is sh R o (Zero d) says i = absurd (let l = i.least in let m = i.most in omega (arith, says, l, m))
header_is sh R o (Catalogue c) says i = ap (λ (x : Option ℕ). Some x) (says.header o i)
header_is sh R o _ says i = absurd says

pub header_given : (sh : Shape) (R : List Record) (o : ℕ) → is_shape sh ≡ true → IsLawful sh R → IsTable R o → header_in (page_of sh R 2) o ≡ Some (Some (stated_header R o))
header_given sh R o s h i = header_is sh R o (page_of sh R 2) (catalogues_say sh R s h.allowed) i

no_header_is : (sh : Shape) (R : List Record) (o : ℕ) (p : Page) → SaysCatalogue sh R p → (IsTable R o → ⊥) → header_in p o ≡ Some None
no_header_is sh R o (Zero d) says i = refl
no_header_is sh R o (Catalogue c) says i = ap (λ (x : Option ℕ). Some x) (says.no_header o i)
no_header_is sh R o _ says i = absurd says

pub no_header_given : (sh : Shape) (R : List Record) (o : ℕ) → is_shape sh ≡ true → IsLawful sh R → (IsTable R o → ⊥) → header_in (page_of sh R 2) o ≡ Some None
no_header_given sh R o s h i = no_header_is sh R o (page_of sh R 2) (catalogues_say sh R s h.allowed) i

short : (es : List CatalogueEntry) (o h : ℕ) → header_of es o ≡ Some h → o ≤ length es
short es zero h e = omega arith
short [] (suc i) h e = absurd (let z : ◌≡◌ {A = Option ℕ} None (Some h) = e in cc)
short (x ∷ es) (suc zero) h e = omega arith
short (x ∷ es) (suc (suc i)) h e = let l = short es (suc i) h e in omega (arith, l)

few_is : (sh : Shape) (R : List Record) (o : ℕ) (p : Page) → SaysCatalogue sh R p → IsTable R o → o ≤ 32
few_is sh R o (Zero d) says i = absurd (let l = i.least in let m = i.most in omega (arith, says, l, m))
few_is sh R o (Catalogue c) says i = let l = short c.entries o _ (says.header o i) in let n = says.count in omega (arith, l, n)
few_is sh R o _ says i = absurd says

-- there are at most 32 tables
pub tables_few : (sh : Shape) (R : List Record) (o : ℕ) → is_shape sh ≡ true → IsLawful sh R → IsTable R o → o ≤ 32
tables_few sh R o s h i = few_is sh R o (page_of sh R 2) (catalogues_say sh R s h.allowed) i

has_same : (es : List Extent) (x : ℕ) → has_number (map (λ (e : Extent). e.number) es) x ≡ has_extent es x
has_same [] x = refl
has_same (e ∷ es) x = ap (λ (b : Bool). eqb e.number x || b) (has_same es x)

extent_is : (R : List Record) (o x : ℕ) (p : Page) → SaysHeader R o p → extent_in p x ≡ Some (has_extent (extents_of R o) x)
extent_is R o x (Header h) says = ap (λ (b : Bool). Some b) (ap (λ (xs : List ℕ). has_number xs x) says.extents ∙ has_same (extents_of R o) x)
extent_is R o x _ says = absurd says

pub extent_given : (sh : Shape) (R : List Record) (o x : ℕ) → is_shape sh ≡ true → IsLawful sh R → IsTable R o → extent_in (page_of sh R (stated_header R o)) x ≡ Some (has_extent (extents_of R o) x)
extent_given sh R o x s h i = extent_is R o x (page_of sh R (stated_header R o)) (headers_say sh R o s h.allowed i)

first_has : (es : List Extent) (e : Extent) → extent_at es 0 ≡ Some e → has_extent es e.number ≡ true
first_has [] e h = absurd (let x : ◌≡◌ {A = Option Extent} None (Some e) = h in cc)
first_has (f ∷ es) e h =
    let same : f ≡ e = (let x : ◌≡◌ {A = Option Extent} (Some f) (Some e) = h in cc) in
    ap (λ (b : Bool). b || has_extent es e.number) (eq-eqb f.number e.number (ap (λ (x : Extent). x.number) same))

pub header_there : (sh : Shape) (R : List Record) (o : ℕ) → is_shape sh ≡ true → IsLawful sh R → IsTable R o → has_page sh (stated_header R o) ≡ true
header_there sh R o s h i =
    let w : Standing_at sh R o = stands_whole sh R o h.whole (headed sh R o h.allowed i) in
    let in_store = leb-true (first_block sh w.first.number + sh.extent) sh.blocks ((placed sh R o h.allowed).whole w.first.number (first_has (extents_of R o) w.first w.at)) in
    let b = w.block in
    let e = (limits sh s).extent_from in
    far_there sh (stated_header R o) (omega (arith, b)) (omega (arith, b, in_store, e))
