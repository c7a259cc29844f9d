-- An allowed record touches only blocks that have pages: tables and extents lie behind the store's own blocks, and of these
-- it touches the transaction table, the catalogue and the space bitmap alone.
use Rattle.std.proofs.Common.{◌≡◌, ◌⊎◌, ℕ, zero, suc, ◌+◌, ◌<◌, ◌≤◌, ◌*◌, true, false, not, ◌||◌, nat_lt, nat_eq, eqb, List, [], ◌∷◌, length, take, Option, Some, None, refl, sym, ◌∙◌, ap, subst, arith, inl, inr, length-append, lt-ltb}
use Rattle.std.proofs.lemmas.Bool.{and_from, or_left, or_right, or_cases, cond-true, eq-eqb, eqb-true, ne_eqb, true≢false}
use Rattle.seg_words.specs.Types.{EXTENTS_OF_L2, OWN_BLOCKS, CHECKPOINT_BLOCK, DOUBLE_WRITE_BLOCK, DOUBLE_WRITE_PAGES}
use Rattle.seg_base.specs.declared.shape.Shape.{Shape}
use Rattle.seg_base.specs.Places.{first_block, is_shape}
use Rattle.redo_record.specs.declared.record.Record.{Record}
use Rattle.redo_record.specs.declared.record.Record.TheVariants.{Table, Movement, Extend, FormatBlock, Class, Advance, Lower, Begin, Reuse, Insert, Update, Migrate, Return, Delete, Commit, Back, Ended, Move, Clean}
use Rattle.redo_record.specs.declared.part.RowPart.{RowPart}
use Rattle.redo_record.specs.declared.part.BackPart.{BackPart}
use Rattle.redo_record.specs.declared.space.ExtendRecord.{ExtendRecord}
use Rattle.redo_record.specs.declared.space.LowerRecord.{LowerRecord}
use Rattle.redo_model.specs.Effects.{Step, Adds, effect_of, row_step, move_step}
use Rattle.redo_model.specs.Segments.{Extent, extents_of, data_blocks, high_mark, IsTable, IsRowBlock, extent_at, block_in, group_start}
use Rattle.redo_model.specs.AllowedTables.{l2_at, StatesBitmaps}
use Rattle.redo_model.specs.Lawful.{AreAllowed}
use Rattle.redo_laws.specs.Among.{is_in}
use Rattle.redo_laws.proofs.lists.Every.{Every, every-map}
use Rattle.redo_laws.proofs.allowed.Basics.{EffectBasics, basics}
use Rattle.redo_laws.proofs.numbers.Bounds.{limits, data_bound, current_bound, reuse_bound}
use Rattle.redo_laws.proofs.space.Apart.{apart_extents}
use Rattle.redo_laws.proofs.space.Places.{in_data, in_take, segments, a_table, format_first}
use Rattle.space_laws.proofs.BestsLaw.{index_is}
use Rattle.space_laws.proofs.ExtentsLaw.{data_at}
use Rattle.page_laws.proofs.FitsLaw.{SomeHome, step_home, back_home}
use Rattle.sort_laws.proofs.SortsLaw.{at_exists, group_below}
use Rattle.sort_laws.proofs.TouchedLaw.{touched_are_there}
use Rattle.page_set.specs.Among.{is_among, blocks_of, back_blocks}
use Rattle.page_set.specs.Folded.{touched, those, first_of}
use Rattle.page_fit.proofs.Headed.{Standing, headed, no_wait}
use Rattle.page_fit.proofs.HeaderApart.{first_is, home_in}
use Rattle.page_fit.proofs.Sorted.{among_same}
use Rattle.buffer_pool.specs.Frames.{has_page}
use Rattle.pool_fit.specs.Fitting.{TouchedHavePages}

-- block 1, 2 or 3, or one behind the store's own
abbrev Stands : ℕ → Type 0
Stands d = ((1 ≤ d) × (d ≤ 3)) ⊎ (OWN_BLOCKS ≤ d)

abbrev AllStand : List ℕ → Type 0
AllStand ds = Every Stands ds

among_stand : (ds : List ℕ) (d : ℕ) → AllStand ds → is_among ds d ≡ true → Stands d
among_stand [] d h m = absurd (true≢false (sym m))
among_stand (x ∷ ds) d h m = elim (or_cases (eqb x d) (is_among ds d) m) [ inl y ↦ subst Stands (eqb-true x d y) h.0 | inr z ↦ among_stand ds d h.1 z ]

one : Stands 1
one = inl (omega arith, omega arith)

two : Stands 2
two = inl (omega arith, omega arith)

three : Stands 3
three = inl (omega arith, omega arith)

-- ---- blocks of extents

place_stands : (sh : Shape) (es : List Extent) (i n b : ℕ) → i < length es → b ≡ block_in sh (extent_at es i) n → Stands b
place_stands sh es i n b l e =
    let g = at_exists es i l in
    let same : b ≡ first_block sh g.0.number + n = e ∙ ap (λ (x : Option Extent). block_in sh x n) g.1 in
    inr (omega (arith, same))

-- of the first extent of a table that has it
front_stands : (sh : Shape) (R : List Record) (o n b : ℕ) → Standing sh R o → b ≡ block_in sh (extent_at (extents_of R o) 0) n → Stands b
front_stands sh R o n b z e =
    let same : b ≡ first_block sh z.first.number + n = e ∙ ap (λ (x : Option Extent). block_in sh x n) z.at in
    inr (omega (arith, same))

-- where the newest record is no Extend, so has each table
standing : (sh : Shape) (R : List Record) (r : Record) (o : ℕ) → AreAllowed sh (r ∷ R) → IsTable R o → ((e : ExtendRecord) → r ≡ Extend e → ⊥) → Standing sh R o
standing sh R r o h i other = no_wait sh R r o h.1.called_for other (headed sh R o h.0 i)

data_stands : (sh : Shape) (R : List Record) (o b : ℕ) → AreAllowed sh R → is_in b (data_blocks sh R o) ≡ true → Stands b
data_stands sh R o b h m = inr ((data_bound sh R o b h m).0)

row_stands : (sh : Shape) (R : List Record) (o b : ℕ) → AreAllowed sh R → IsRowBlock sh R o b → Stands b
row_stands sh R o b h x = data_stands sh R o b h (home_in sh R o b x)

first_stands : (sh : Shape) (R : List Record) (o b : ℕ) → is_shape sh ≡ true → is_in b (data_blocks sh R o) ≡ true → Stands (first_of sh b)
first_stands sh R o b s m =
    let y = in_data sh 0 (extents_of R o) b m in
    let e = first_is sh y.extent b (limits sh s).extent_from y.from y.to in
    inr (omega (arith, e))

at_less : (es : List Extent) (i : ℕ) (e : Extent) → extent_at es i ≡ Some e → i < length es
at_less [] i e h = absurd (let x : ◌≡◌ {A = Option Extent} None (Some e) = h in cc)
at_less (f ∷ es) zero e h = omega arith
at_less (f ∷ es) (suc i) e h = let l = at_less es i e h in omega (arith, l)

-- the bitmaps of a data block
maps_stand : (sh : Shape) (R : List Record) (o b l2 l3 index : ℕ) → is_shape sh ≡ true → AreAllowed sh R → IsTable R o → is_in b (data_blocks sh R o) ≡ true → StatesBitmaps sh R o b l2 l3 index → AllStand (l2 ∷ l3 ∷ first_of sh b ∷ [])
maps_stand sh R o b l2 l3 index s h i here a =
    let es = extents_of R o in
    let d = data_at sh 0 es b here in
    let from = d.from in
    let same : index ≡ d.index = a.index_is ∙ index_is sh es d.index b d.extent (apart_extents sh R o h (a_table sh R o (segments sh R h) i)) d.at (omega (arith, from)) d.to in
    let below = at_less es d.index d.extent d.at in
    let up = group_below index in (
      place_stands sh es (group_start index) 1 l2 (omega (arith, same, below, up)) a.l2_is,
      (place_stands sh es 0 2 l3 (omega (arith, below)) a.l3_is, (first_stands sh R o b s here, tt)),
    )

extend_stands : (sh : Shape) (R : List Record) (e : ExtendRecord) → AreAllowed sh (Extend e ∷ R) → AllStand (touched sh (Extend e))
extend_stands sh R e h =
    let a = h.1.kind in
    let es = extents_of (Extend e ∷ R) e.obj in
    let new : Extent = record { number = e.extent; incarnation = suc (length R) } in
    let long : length es ≡ length (extents_of R e.obj) + 1 = ap (λ (xs : List Extent). length xs) (cond-true _ _ _ (eq-eqb e.obj e.obj refl)) ∙ length-append (extents_of R e.obj) (new ∷ []) in
    let index = a.index in
    let up = group_below e.index in (
      three,
      (
        place_stands sh es 0 3 e.header (omega (arith, long)) a.header,
        (
          place_stands sh es (group_start e.index) 1 e.l2 (omega (arith, long, index, up)) a.l2,
          (place_stands sh es 0 2 e.l3 (omega (arith, long)) a.l3, (inr (omega arith), tt)),
        ),
      ),
    )

those_stand : (sh : Shape) (x : Option Extent) (os : List (Option ℕ)) → AllStand (those os) → AllStand (those (l2_at sh x ∷ os))
those_stand sh None os h = h
those_stand sh (Some x) os h = (inr (omega arith), h)

lower_stands : (sh : Shape) (R : List Record) (l : LowerRecord) → AreAllowed sh (Lower l ∷ R) → AllStand (touched sh (Lower l))
lower_stands sh R l h =
    let a = h.1.kind in
    let z = standing sh R (Lower l) l.obj h a.table (λ e is. (let x : Lower l ≡ Extend e = is in cc)) in
    let es = take l.kept (extents_of R l.obj) in (
      three,
      (
        front_stands sh R l.obj 3 l.header z a.header,
        (
          front_stands sh R l.obj 2 l.l3 z a.l3,
          subst (λ (os : List (Option ℕ)). AllStand (those os)) (sym a.l2)
              (those_stand sh (extent_at es 0) (l2_at sh (extent_at es EXTENTS_OF_L2) ∷ l2_at sh (extent_at es (2 * EXTENTS_OF_L2)) ∷ []) (those_stand sh (extent_at es EXTENTS_OF_L2) (l2_at sh (extent_at es (2 * EXTENTS_OF_L2)) ∷ []) (those_stand sh (extent_at es (2 * EXTENTS_OF_L2)) [] tt))),
        ),
      ),
    )

-- ---- blocks of rows and of undo

parts_stand : (ps : List RowPart) → Every (λ (p : RowPart). Stands p.dba) ps → AllStand (blocks_of ps)
parts_stand [] h = tt
parts_stand (p ∷ ps) h = (h.0, parts_stand ps h.1)

backs_stand : (ps : List BackPart) → Every (λ (p : BackPart). Stands p.dba) ps → AllStand (back_blocks ps)
backs_stand [] h = tt
backs_stand (p ∷ ps) h = (h.0, backs_stand ps h.1)

step_stands : (sh : Shape) (R : List Record) (r : Record) (st : Step) → is_shape sh ≡ true → AreAllowed sh (r ∷ R) → effect_of r ≡ Adds st → AllStand (st.undo.block ∷ blocks_of st.parts)
step_stands sh R r st s h e =
    let b = subst (EffectBasics R) e (basics sh R r h.1.kind) in (
      inr (current_bound sh R st.undo.block (limits sh s).undo_from h.0 b.undo.current).0,
      parts_stand st.parts (every-map (λ (p : RowPart). IsRowBlock sh R st.obj p.dba) (λ (p : RowPart). Stands p.dba) st.parts (λ p x. row_stands sh R st.obj p.dba h.0 x) (step_home sh R r st h e)),
    )

-- ---- kind by kind

all_stand : (sh : Shape) (R : List Record) (r : Record) → is_shape sh ≡ true → AreAllowed sh (r ∷ R) → AllStand (touched sh r)
all_stand sh R (Table t) s h = (two, (inr (let e = h.1.kind.header in omega (arith, e)), tt))
all_stand sh R (Movement m) s h = (front_stands sh R m.obj 3 m.header (standing sh R (Movement m) m.obj h h.1.kind.table (λ e is. (let x : Movement m ≡ Extend e = is in cc))) h.1.kind.header, tt)
all_stand sh R (Advance m) s h = (front_stands sh R m.obj 3 m.header (standing sh R (Advance m) m.obj h h.1.kind.table (λ e is. (let x : Advance m ≡ Extend e = is in cc))) h.1.kind.header, tt)
all_stand sh R (Extend e) s h = extend_stands sh R e h
all_stand sh R (Lower l) s h = lower_stands sh R l h
all_stand sh R (FormatBlock f) s h =
    let here = in_take f.dba (high_mark R f.obj) (data_blocks sh R f.obj) (format_first sh R f h.1.kind).0 in
    (data_stands sh R f.obj f.dba h.0 here, maps_stand sh R f.obj f.dba f.l2 f.l3 f.index s h.0 h.1.kind.table here h.1.kind.bitmaps)
all_stand sh R (Class k) s h = maps_stand sh R k.obj k.dba k.l2 k.l3 k.index s h.0 h.1.kind.table (home_in sh R k.obj k.dba h.1.kind.here) h.1.kind.bitmaps
all_stand sh R (Begin g) s h = (one, tt)
all_stand sh R (Commit c) s h = (one, tt)
all_stand sh R (Ended e) s h = (one, tt)
all_stand sh R (Reuse q) s h = (one, (inr (reuse_bound sh R q.block (limits sh s).undo_from h.0 h.1.kind.block.next).0, tt))
all_stand sh R (Insert w) s h = (one, step_stands sh R (Insert w) (row_step w false) s h refl)
all_stand sh R (Update w) s h = (one, step_stands sh R (Update w) (row_step w false) s h refl)
all_stand sh R (Migrate w) s h = (one, step_stands sh R (Migrate w) (row_step w false) s h refl)
all_stand sh R (Return w) s h = (one, step_stands sh R (Return w) (row_step w false) s h refl)
all_stand sh R (Delete w) s h = (one, step_stands sh R (Delete w) (row_step w true) s h refl)
all_stand sh R (Move m) s h = step_stands sh R (Move m) (move_step m) s h refl
all_stand sh R (Back k) s h = (one, backs_stand k.parts (every-map (λ (q : BackPart). SomeHome sh R q.dba) (λ (q : BackPart). Stands q.dba) k.parts (λ q x. row_stands sh R x.0 q.dba h.0 x.1) (back_home sh R k h)))
all_stand sh R (Clean c) s h = (row_stands sh R h.1.kind.obj c.dba h.0 h.1.kind.here, tt)

-- ---- such a block of the store has a page

page_there : (sh : Shape) (d : ℕ) → d < sh.blocks → Stands d → has_page sh d ≡ true
page_there sh d l z = and_from (not (nat_eq d CHECKPOINT_BLOCK)) _ (ap not (ne_eqb d CHECKPOINT_BLOCK (λ e. apart e z))) (and_from (nat_lt d sh.blocks) _ (lt-ltb d sh.blocks l) (outside z))
  where
    apart : d ≡ 0 → Stands d → ⊥
    apart e (inl a) = (let f = a.0 in omega (arith, e, f))
    apart e (inr a) = omega (arith, e, a)

    outside : Stands d → (nat_lt d DOUBLE_WRITE_BLOCK || nat_lt (DOUBLE_WRITE_BLOCK + DOUBLE_WRITE_PAGES) d) ≡ true
    outside (inl a) = or_left (nat_lt d DOUBLE_WRITE_BLOCK) _ (lt-ltb d DOUBLE_WRITE_BLOCK (let t = a.1 in omega (arith, t)))
    outside (inr a) = or_right (nat_lt d DOUBLE_WRITE_BLOCK) _ (lt-ltb (DOUBLE_WRITE_BLOCK + DOUBLE_WRITE_PAGES) d (omega (arith, a)))

pub touched_have_pages : TouchedHavePages
touched_have_pages sh R r d s h m = page_there sh d (touched_are_there sh R r d s h (sym (among_same (touched sh r) d) ∙ m)) (among_stand (touched sh r) d (all_stand sh R r s h) m)
