-- Each page says what the model says of its block: one induction over the list, whose step tells three kinds apart.
use Rattle.std.proofs.Common.{◌≡◌, ℕ, ◌%◌, suc, true, false, cond, eqb, ◌||◌, List, [], ◌∷◌, ◌++◌, length, map, refl, sym, ap, ◌∙◌, inl, inr, Some, None}
use Rattle.std.proofs.lemmas.Bool.{cases_Bool}
use Rattle.std.proofs.lemmas.List.{map-append}
use Rattle.seg_words.specs.Types.{EXTENTS_OF_L2}
use Rattle.seg_base.specs.declared.slot.Slot.{Slot}
use Rattle.seg_base.specs.declared.slot.ListEntry.{ListEntry}
use Rattle.seg_base.specs.Blocks.{Block, new_block}
use Rattle.undo_block.specs.declared.part.Part.{Part}
use Rattle.redo_record.specs.declared.record.Record.{Record}
use Rattle.redo_record.specs.declared.record.Record.TheVariants.{Table, Movement, Extend, FormatBlock, Class, Advance, Lower, Begin, Reuse, Insert, Update, Migrate, Return, Delete, Commit, Back, Ended, Move, Clean}
use Rattle.redo_record.specs.declared.part.RowPart.{RowPart}
use Rattle.redo_record.specs.declared.part.BackPart.{BackPart}
use Rattle.redo_record.specs.declared.row.RowBody.{RowBody}
use Rattle.redo_record.specs.declared.space.FormatBlockRecord.{FormatBlockRecord}
use Rattle.redo_record.specs.declared.space.ExtendRecord.{ExtendRecord}
use Rattle.bitmap_block.specs.Pages.{ExtentMap, Summary}
use Rattle.page_set.specs.Maps.{first_changed, second_changed, third_changed}
use Rattle.seg_base.specs.declared.shape.Shape.{Shape}
use Rattle.redo_record.specs.declared.transaction.ReuseRecord.{ReuseRecord}
use Rattle.redo_model.specs.Effects.{Step, Effect, Still, Formats, Adds, TakesBack, Cleans, effect_of, written, restored}
use Rattle.redo_model.specs.Blocks.{place_all, enter_all, slots_of, entries_of}
use Rattle.redo_model.specs.Undo.{HeldPart, held_by, held_after, kept_by, undo_held}
use Rattle.page_set.specs.declared.page.Page.{Page}
use Rattle.page_set.specs.declared.page.Page.TheVariants.{Zero, Checkpoint, Txns, Catalogue, Space, Undo, First, Second, Third, Header, Rows}
use Rattle.page_set.specs.Rows.{changed_block}
use Rattle.page_set.specs.Undo.{txn_of, kept_parts, parts_of, undo_changed}
use Rattle.txn_block.specs.Tables.{TxnTable}
use Rattle.page_set.specs.Txns.{txns_changed}
use Rattle.segment_blocks.specs.Catalogues.{Tables}
use Rattle.segment_blocks.specs.Headers.{Header as HeaderPage}
use Rattle.segment_blocks.specs.Spaces.{Space as SpacePage}
use Rattle.page_set.specs.Catalogues.{catalogue_changed}
use Rattle.page_set.specs.Spaces.{space_changed}
use Rattle.page_set.specs.Headers.{header_changed}
use Rattle.redo_record.specs.declared.space.TableRecord.{TableRecord}
use Rattle.page_set.specs.Pages.{dba_of, new_first, new_second, new_third}
use Rattle.page_set.specs.Started.{as_txns, as_catalogue, as_space, table_started, extent_started, or_kept}
use Rattle.page_set.specs.Changes.{page_after, changed_page}
use Rattle.page_set.specs.Among.{is_among, blocks_of, back_blocks}
use Rattle.page_set.specs.Folded.{touched_by_row, touched, first_of, page_of}
use Rattle.page_set.specs.Says.{as_kept, Says}
use Rattle.page_set.proofs.Quiet.{or_left, or_right}

-- ---- a record that doesn't touch a block leaves what the model says of it

place_others : (ps : List RowPart) (b : ℕ) (ss : List Slot) → is_among (blocks_of ps) b ≡ false → place_all (written ps) b ss ≡ ss
place_others [] b ss h = refl
place_others (p ∷ ps) b ss h = rw (or_left (eqb p.dba b) (is_among (blocks_of ps) b) h) (place_others ps b ss (or_right (eqb p.dba b) (is_among (blocks_of ps) b) h))

back_others : (ps : List BackPart) (b : ℕ) (ss : List Slot) → is_among (back_blocks ps) b ≡ false → place_all (restored ps) b ss ≡ ss
back_others [] b ss h = refl
back_others (p ∷ ps) b ss h = rw (or_left (eqb p.dba b) (is_among (back_blocks ps) b) h) (back_others ps b ss (or_right (eqb p.dba b) (is_among (back_blocks ps) b) h))

enter_others : (ps : List RowPart) (t b : ℕ) (es : List ListEntry) → is_among (blocks_of ps) b ≡ false → enter_all ps t b es ≡ es
enter_others [] t b es h = refl
enter_others (p ∷ ps) t b es h = rw (or_left (eqb p.dba b) (is_among (blocks_of ps) b) h) (enter_others ps t b es (or_right (eqb p.dba b) (is_among (blocks_of ps) b) h))

-- what the model says of block b after the record is what it said before
record Left (r : Record) (R : List Record) (b : ℕ) : Type 0 where
  slots : slots_of (r ∷ R) b ≡ slots_of R b
  entries : entries_of (r ∷ R) b ≡ entries_of R b
  held : undo_held (r ∷ R) b ≡ undo_held R b

row_left : (w : RowBody) (b : ℕ) → is_among (touched_by_row w) b ≡ false → (eqb w.undo.block b ≡ false) × (is_among (blocks_of w.parts) b ≡ false)
row_left w b h =
    let two : (eqb w.undo.block b || is_among (blocks_of w.parts) b) ≡ false = or_right (eqb 1 b) (eqb w.undo.block b || is_among (blocks_of w.parts) b) h in
    (or_left (eqb w.undo.block b) (is_among (blocks_of w.parts) b) two, or_right (eqb w.undo.block b) (is_among (blocks_of w.parts) b) two)

held_others : (st : Step) (b : ℕ) (hs : List HeldPart) → eqb st.undo.block b ≡ false → held_after (Adds st) b hs ≡ hs
held_others st b hs h = rw h refl

left : (sh : Shape) (r : Record) (R : List Record) (b : ℕ) → is_among (touched sh r) b ≡ false → Left r R b
left sh (Table t) R b h = record { slots = refl; entries = refl; held = refl }
left sh (Movement m) R b h = record { slots = refl; entries = refl; held = refl }
left sh (Extend e) R b h = record { slots = refl; entries = refl; held = refl }
left sh (FormatBlock f) R b h =
    let e : eqb f.dba b ≡ false = or_left (eqb f.dba b) (is_among (f.l2 ∷ f.l3 ∷ first_of sh f.dba ∷ []) b) h in
    record { slots = rw e refl; entries = rw e refl; held = refl }
left sh (Class k) R b h = record { slots = refl; entries = refl; held = refl }
left sh (Advance a) R b h = record { slots = refl; entries = refl; held = refl }
left sh (Lower l) R b h = record { slots = refl; entries = refl; held = refl }
left sh (Begin g) R b h = record { slots = refl; entries = refl; held = refl }
left sh (Reuse q) R b h =
    let e : eqb q.block b ≡ false = or_left (eqb q.block b) false (or_right (eqb 1 b) (eqb q.block b || false) h) in
    record { slots = refl; entries = refl; held = rw e refl }
left sh (Insert w) R b h = let x : (eqb w.undo.block b ≡ false) × (is_among (blocks_of w.parts) b ≡ false) = row_left w b h in
    record { slots = place_others w.parts b (slots_of R b) x.1; entries = enter_others w.parts w.txn b (entries_of R b) x.1; held = rw x.0 refl }
left sh (Update w) R b h = let x : (eqb w.undo.block b ≡ false) × (is_among (blocks_of w.parts) b ≡ false) = row_left w b h in
    record { slots = place_others w.parts b (slots_of R b) x.1; entries = enter_others w.parts w.txn b (entries_of R b) x.1; held = rw x.0 refl }
left sh (Migrate w) R b h = let x : (eqb w.undo.block b ≡ false) × (is_among (blocks_of w.parts) b ≡ false) = row_left w b h in
    record { slots = place_others w.parts b (slots_of R b) x.1; entries = enter_others w.parts w.txn b (entries_of R b) x.1; held = rw x.0 refl }
left sh (Return w) R b h = let x : (eqb w.undo.block b ≡ false) × (is_among (blocks_of w.parts) b ≡ false) = row_left w b h in
    record { slots = place_others w.parts b (slots_of R b) x.1; entries = enter_others w.parts w.txn b (entries_of R b) x.1; held = rw x.0 refl }
left sh (Delete w) R b h = let x : (eqb w.undo.block b ≡ false) × (is_among (blocks_of w.parts) b ≡ false) = row_left w b h in
    record { slots = place_others w.parts b (slots_of R b) x.1; entries = enter_others w.parts w.txn b (entries_of R b) x.1; held = rw x.0 refl }
left sh (Commit c) R b h = record { slots = refl; entries = refl; held = refl }
left sh (Back k) R b h = record { slots = back_others k.parts b (slots_of R b) (or_right (eqb 1 b) (is_among (back_blocks k.parts) b) h); entries = refl; held = refl }
left sh (Ended e) R b h = record { slots = refl; entries = refl; held = refl }
left sh (Move m) R b h =
    let none : is_among (blocks_of m.parts) b ≡ false = or_right (eqb m.undo.block b) (is_among (blocks_of m.parts) b) h in
    record { slots = place_others m.parts b (slots_of R b) none; entries = refl; held = rw (or_left (eqb m.undo.block b) (is_among (blocks_of m.parts) b) h) refl }
left sh (Clean c) R b h =
    let e : eqb c.dba b ≡ false = or_left (eqb c.dba b) false h in
    record { slots = rw e refl; entries = rw e refl; held = refl }

as_block : (ss ts : List Slot) (es fs : List ListEntry) (x : Block) → ss ≡ ts → es ≡ fs → x ≡ record { slots = ts; entries = fs } → x ≡ record { slots = ss; entries = es }
as_block ss ts es fs x e f h = h ∙ ap (λ (s : List Slot). record { slots = s; entries = fs }) (sym e) ∙ ap (λ (s : List ListEntry). record { slots = ss; entries = s }) (sym f)

left_says : (r : Record) (R : List Record) (b : ℕ) (p : Page) → Left r R b → Says R b p → Says (r ∷ R) b p
left_says r R b (Zero d) l h = h
left_says r R b (Rows x) l h = (h.0, as_block (slots_of (r ∷ R) b) (slots_of R b) (entries_of (r ∷ R) b) (entries_of R b) x.block l.slots l.entries h.1)
left_says r R b (Undo u) l h = (h.0, h.1 ∙ ap (map as_kept) (sym l.held))
left_says r R b (Checkpoint p) l h = h
left_says r R b (Txns t) l h = h
left_says r R b (Catalogue c) l h = h
left_says r R b (Space s) l h = h
left_says r R b (Header x) l h = h
left_says r R b (First m) l h = h
left_says r R b (Second m) l h = h
left_says r R b (Third m) l h = h

-- ---- a record that changes the page

kept_as : (st : Step) (ps : List RowPart) → kept_parts (txn_of st.by) st.previous (length st.parts) ps ≡ map as_kept (held_by st ps)
kept_as st [] = refl
kept_as st (p ∷ ps) = ap (λ (xs : List Part). record { txn = txn_of st.by; previous = st.previous; dba = p.dba; slot = p.slot; parts = length st.parts; old = p.old } ∷ xs) (kept_as st ps)

adds_kept : (st : Step) (b : ℕ) (ps : List Part) (hs : List HeldPart) → ps ≡ map as_kept hs → undo_changed (Adds st) b ps ≡ map as_kept (held_after (Adds st) b hs)
adds_kept st b ps hs h = elim (cases_Bool (eqb st.undo.block b)) [
  | inl y ↦ rw y (ap (λ (x : List Part). x ++ parts_of st) h ∙ ap (λ (x : List Part). map as_kept hs ++ x) (kept_as st st.parts) ∙ sym (map-append as_kept hs (held_by st st.parts)))
  | inr n ↦ rw n h
]

effect_kept : (e : Effect) (b : ℕ) (ps : List Part) (hs : List HeldPart) → ps ≡ map as_kept hs → undo_changed e b ps ≡ map as_kept (held_after e b hs)
effect_kept Still b ps hs h = h
effect_kept (Formats d) b ps hs h = h
effect_kept (Adds st) b ps hs h = adds_kept st b ps hs h
effect_kept (TakesBack k) b ps hs h = h
effect_kept (Cleans d cs) b ps hs h = h

txns_dba : (r : Record) (t : TxnTable) → (txns_changed r t).dba ≡ t.dba
txns_dba (Begin g) t = refl
txns_dba (Reuse q) t = refl
txns_dba (Insert w) t = refl
txns_dba (Update w) t = refl
txns_dba (Migrate w) t = refl
txns_dba (Return w) t = refl
txns_dba (Delete w) t = refl
txns_dba (Commit c) t = refl
txns_dba (Back k) t = refl
txns_dba (Ended e) t = refl
txns_dba _ t = refl

first_dba : (r : Record) (m : ExtentMap) → (first_changed r m).dba ≡ m.dba
first_dba (FormatBlock f) m = refl
first_dba (Class k) m = refl
first_dba _ m = refl

second_dba : (r : Record) (m : Summary) → (second_changed r m).dba ≡ m.dba
second_dba (Extend e) m = refl
second_dba (FormatBlock f) m = refl
second_dba (Class k) m = refl
second_dba (Lower l) m = refl
second_dba _ m = refl

third_dba : (r : Record) (m : Summary) → (third_changed r m).dba ≡ m.dba
third_dba (FormatBlock f) m = refl
third_dba (Class k) m = refl
third_dba (Lower l) m = refl
third_dba _ m = refl

catalogue_dba : (r : Record) (c : Tables) → (catalogue_changed r c).dba ≡ c.dba
catalogue_dba (Table t) c = refl
catalogue_dba _ c = refl

space_dba : (r : Record) (s : SpacePage) → (space_changed r s).dba ≡ s.dba
space_dba (Extend e) s = refl
space_dba (Lower l) s = refl
space_dba _ s = refl

header_dba : (r : Record) (h : HeaderPage) → (header_changed r h).dba ≡ h.dba
header_dba (Movement m) h = refl
header_dba (Extend e) h = refl
header_dba (Advance a) h = refl
header_dba (Lower l) h = refl
header_dba _ h = refl

-- what the record makes of a page that said what the model said, but for what a Reuse has emptied
after_says : (r : Record) (R : List Record) (b lsn : ℕ) (p : Page) → (kept_by r b (undo_held R b) ≡ undo_held R b) → Says R b p → Says (r ∷ R) b (page_after r lsn p)
after_says r R b lsn (Zero d) k h = h
after_says r R b lsn (Rows x) k h =
    (h.0, ap (λ (d : ℕ). changed_block (effect_of r) d x.block) h.0 ∙ ap (λ (y : Block). changed_block (effect_of r) b y) h.1)
after_says r R b lsn (Undo u) k h =
    (h.0, ap (λ (d : ℕ). undo_changed (effect_of r) d u.parts) h.0 ∙ effect_kept (effect_of r) b u.parts (kept_by r b (undo_held R b)) (h.1 ∙ ap (map as_kept) (sym k)))
after_says r R b lsn (Checkpoint p) k h = h
after_says r R b lsn (Txns t) k h = txns_dba r t ∙ h
after_says r R b lsn (Catalogue c) k h = catalogue_dba r c ∙ h
after_says r R b lsn (Space s) k h = space_dba r s ∙ h
after_says r R b lsn (Header x) k h = header_dba r x ∙ h
after_says r R b lsn (First m) k h = first_dba r m ∙ h
after_says r R b lsn (Second m) k h = second_dba r m ∙ h
after_says r R b lsn (Third m) k h = third_dba r m ∙ h

pub dba_says : (R : List Record) (b : ℕ) (p : Page) → Says R b p → dba_of p ≡ b
dba_says R b (Zero d) h = h
dba_says R b (Checkpoint p) h = absurd h
dba_says R b (Catalogue c) h = h
dba_says R b (Space s) h = h
dba_says R b (Header x) h = h
dba_says R b (Rows x) h = h.0
dba_says R b (Undo u) h = h.0
dba_says R b (Txns t) h = h
dba_says R b (First m) h = h
dba_says R b (Second m) h = h
dba_says R b (Third m) h = h

txns_says : (R : List Record) (b : ℕ) (p : Page) → Says R b p → Says R b (or_kept (as_txns p) p)
txns_says R b (Zero d) h = h
txns_says R b (Checkpoint p) h = h
txns_says R b (Txns t) h = h
txns_says R b (Catalogue c) h = h
txns_says R b (Space s) h = h
txns_says R b (Undo u) h = h
txns_says R b (First m) h = h
txns_says R b (Second m) h = h
txns_says R b (Third m) h = h
txns_says R b (Header x) h = h
txns_says R b (Rows x) h = h

catalogue_says : (R : List Record) (b : ℕ) (p : Page) → Says R b p → Says R b (or_kept (as_catalogue p) p)
catalogue_says R b (Zero d) h = h
catalogue_says R b (Checkpoint p) h = h
catalogue_says R b (Txns t) h = h
catalogue_says R b (Catalogue c) h = h
catalogue_says R b (Space s) h = h
catalogue_says R b (Undo u) h = h
catalogue_says R b (First m) h = h
catalogue_says R b (Second m) h = h
catalogue_says R b (Third m) h = h
catalogue_says R b (Header x) h = h
catalogue_says R b (Rows x) h = h

space_says : (R : List Record) (b : ℕ) (p : Page) → Says R b p → Says R b (or_kept (as_space p) p)
space_says R b (Zero d) h = h
space_says R b (Checkpoint p) h = h
space_says R b (Txns t) h = h
space_says R b (Catalogue c) h = h
space_says R b (Space s) h = h
space_says R b (Undo u) h = h
space_says R b (First m) h = h
space_says R b (Second m) h = h
space_says R b (Third m) h = h
space_says R b (Header x) h = h
space_says R b (Rows x) h = h

-- the block of a FormatBlock, and the block of a Reuse
formats_says : (f : FormatBlockRecord) (R : List Record) (b lsn d : ℕ) → d ≡ b → eqb f.dba d ≡ true → Says (FormatBlock f ∷ R) b (page_after (FormatBlock f) lsn (Rows (record { dba = d; lsn = 0; block = new_block })))
formats_says f R b lsn d e y =
    let z : eqb f.dba b ≡ true = ap (λ (x : ℕ). eqb f.dba x) (sym e) ∙ y in
    (e, rw (y, z) refl)

reuse_says : (q : ReuseRecord) (R : List Record) (b lsn d : ℕ) → d ≡ b → eqb q.block d ≡ true → Says (Reuse q ∷ R) b (page_after (Reuse q) lsn (Undo (record { dba = d; lsn = 0; sequence = q.sequence; parts = [] })))
reuse_says q R b lsn d e y =
    let z : eqb q.block b ≡ true = ap (λ (x : ℕ). eqb q.block x) (sym e) ∙ y in
    (e, rw z refl)

reuse_left : (q : ReuseRecord) (R : List Record) (b lsn : ℕ) (p : Page) → eqb q.block (dba_of p) ≡ false → Says R b p → Says (Reuse q ∷ R) b (page_after (Reuse q) lsn p)
reuse_left q R b lsn p n h =
    let z : eqb q.block b ≡ false = ap (λ (x : ℕ). eqb q.block x) (sym (dba_says R b p h)) ∙ n in
    after_says (Reuse q) R b lsn p (rw z refl) h

table_says : (t : TableRecord) (R : List Record) (b : ℕ) (p : Page) → Says R b p → Says R b (or_kept (table_started t p) p)
table_says t R b p h = elim (cases_Bool (eqb (dba_of p) 2)) [ inl y ↦ rw y (catalogue_says R b p h) | inr n ↦ rw n (dba_says R b p h) ]

second_says : (index : ℕ) (R : List Record) (b : ℕ) (p : Page) → Says R b p → Says R b (or_kept (cond (eqb (index % EXTENTS_OF_L2) 0) (Some (new_second (dba_of p))) None) p)
second_says index R b p h = elim (cases_Bool (eqb (index % EXTENTS_OF_L2) 0)) [ inl y ↦ rw y (dba_says R b p h) | inr n ↦ rw n h ]

third_says : (index : ℕ) (R : List Record) (b : ℕ) (p : Page) → Says R b p → Says R b (or_kept (cond (eqb index 0) (Some (new_third (dba_of p))) None) p)
third_says index R b p h = elim (cases_Bool (eqb index 0)) [ inl y ↦ rw y (dba_says R b p h) | inr n ↦ rw n h ]

bitmap_says : (e : ExtendRecord) (R : List Record) (b lsn : ℕ) (p : Page) → Says R b p
    → Says R b (or_kept (cond (eqb (dba_of p) e.l2) (cond (eqb (e.index % EXTENTS_OF_L2) 0) (Some (new_second (dba_of p))) None)
    (cond (eqb (dba_of p) e.l3) (cond (eqb e.index 0) (Some (new_third (dba_of p))) None) (Some (new_first (dba_of p) lsn)))) p)
bitmap_says e R b lsn p h = elim (cases_Bool (eqb (dba_of p) e.l2)) [
  | inl y ↦ rw y (second_says e.index R b p h)
  | inr n ↦ rw n (elim (cases_Bool (eqb (dba_of p) e.l3)) [ inl z ↦ rw z (third_says e.index R b p h) | inr m ↦ rw m (dba_says R b p h) ])
]

extent_says : (e : ExtendRecord) (R : List Record) (b lsn : ℕ) (p : Page) → Says R b p → Says R b (or_kept (extent_started e lsn p) p)
extent_says e R b lsn p h = elim (cases_Bool (eqb (dba_of p) 3)) [
  | inl y ↦ rw y (space_says R b p h)
  | inr n ↦ rw n (elim (cases_Bool (eqb (dba_of p) e.header)) [ inl z ↦ rw z h | inr m ↦ rw m (bitmap_says e R b lsn p h) ])
]

pub changed_says : (r : Record) (R : List Record) (b lsn : ℕ) (p : Page) → Says R b p → Says (r ∷ R) b (changed_page r lsn p)
changed_says (FormatBlock f) R b lsn p h = elim (cases_Bool (eqb f.dba (dba_of p))) [
  | inl y ↦ rw y (formats_says f R b lsn (dba_of p) (dba_says R b p h) y)
  | inr n ↦ rw n (after_says (FormatBlock f) R b lsn p refl h)
]
changed_says (Reuse q) R b lsn p h = elim (cases_Bool (eqb q.block (dba_of p))) [
  | inl y ↦ rw y (reuse_says q R b lsn (dba_of p) (dba_says R b p h) y)
  | inr n ↦ rw n (reuse_left q R b lsn p n h)
]
changed_says (Table t) R b lsn p h = after_says (Table t) R b lsn (or_kept (table_started t p) p) refl (table_says t R b p h)
changed_says (Extend e) R b lsn p h = after_says (Extend e) R b lsn (or_kept (extent_started e lsn p) p) refl (extent_says e R b lsn p h)
changed_says (Begin g) R b lsn p h = after_says (Begin g) R b lsn (or_kept (as_txns p) p) refl (txns_says R b p h)
changed_says r R b lsn p h = after_says r R b lsn p refl h

pub says : (sh : Shape) (R : List Record) (b : ℕ) → Says R b (page_of sh R b)
says sh [] b = refl
says sh (r ∷ R) b = elim (cases_Bool (is_among (touched sh r) b)) [
  | inl y ↦ rw y (changed_says r R b (suc (length R)) (page_of sh R b) (says sh R b))
  | inr n ↦ rw n (left_says r R b (page_of sh R b) (left sh r R b n) (says sh R b))
]
