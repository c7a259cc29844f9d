-- What an allowed record touches lies in the store.
use Rattle.std.proofs.Common.{◌≡◌, ℕ, ◌+◌, ◌<◌, ◌≤◌, Bool, true, false, not, eqb, List, [], ◌∷◌, ◌++◌, take, Option, Some, None, refl, sym, subst, arith, inl, inr, true≢false, eqb-true, leb-true, ◌*◌}
use Rattle.seg_words.proofs.Lemmas.{or_cases, and_parts}
use Rattle.seg_words.specs.Types.{Shape, first_block, is_extent, MOST_TABLES, EXTENTS_OF_L2, LEAST_EXTENT_BLOCKS}
use Rattle.redo_model.specs.Records.{Record, Table, Movement, Extend, FormatBlock, Class, Advance, Lower, Begin, Reuse, Insert, Update, Migrate, Return, Delete, Commit, Back, Ended, Move, Clean, RowPart, BackPart, RowBody}
use Rattle.redo_model.specs.Model.{Step, effect_of, row_step, move_step, Extent, extents_of, data_blocks, high_mark, IsRowBlock, has_extent, is_taken, is_free_extent, extent_at, block_in, group_start, l2_at, IsKindAllowed, AreAllowed}
use Rattle.redo_model.specs.Effects.{Adds}
use Rattle.redo_laws.specs.Among.{is_in}
use Rattle.redo_laws.proofs.space.ApartLaw.{placed}
use Rattle.redo_laws.proofs.allowed.Basics.{EffectBasics, basics}
use Rattle.redo_laws.proofs.numbers.Bounds.{Limits, limits, data_bound, current_bound, reuse_bound}
use Rattle.redo_laws.proofs.lists.Every.{Every, every-map}
use Rattle.redo_laws.proofs.space.Places.{in_contains, in_take, format_first, has_taken}
use Rattle.page_model.specs.Types.{blocks_of, back_blocks, touched_by_row, first_of, those, touched_heads, touched_sorts, touched}
use Rattle.sort_laws.specs.Touched.{TouchedAreThere}
use Rattle.page_laws.proofs.FitsLaw.{SomeHome, step_home, back_home}
use Rattle.space_laws.proofs.ExtentsLaw.{found_has}

-- each number of a list is one of a block of the store
abbrev AreThere : Shape → List ℕ → Type 0
AreThere sh ds = Every (λ d. d < sh.blocks) ds

among_there : (sh : Shape) (ds : List ℕ) (d : ℕ) → AreThere sh ds → is_in d ds ≡ true → d < sh.blocks
among_there sh [] d h m = absurd (true≢false (sym m))
among_there sh (x ∷ ds) d h m = elim (or_cases (eqb x d) (is_in d ds) m) [ inl y ↦ subst (λ z. z < sh.blocks) (eqb-true x d y) h.0 | inr z ↦ among_there sh ds d h.1 z ]

both_there : (sh : Shape) (xs ys : List ℕ) → AreThere sh xs → AreThere sh ys → AreThere sh (xs ++ ys)
both_there sh [] ys h k = k
both_there sh (x ∷ xs) ys h k = (h.0, both_there sh xs ys h.1 k)

row_there : (sh : Shape) (R : List Record) (o b : ℕ) → AreAllowed sh R → IsRowBlock sh R o b → b < sh.blocks
row_there sh R o b h x = (data_bound sh R o b h (in_take b (high_mark R o) (data_blocks sh R o) (in_contains _ b x.here.0 x.here.1 x.here.2))).1

parts_there : (sh : Shape) (ps : List RowPart) → Every (λ (p : RowPart). p.dba < sh.blocks) ps → AreThere sh (blocks_of ps)
parts_there sh [] h = tt
parts_there sh (p ∷ ps) h = (h.0, parts_there sh ps h.1)

backs_there : (sh : Shape) (ps : List BackPart) → Every (λ (p : BackPart). p.dba < sh.blocks) ps → AreThere sh (back_blocks ps)
backs_there sh [] h = tt
backs_there sh (p ∷ ps) h = (h.0, backs_there sh ps h.1)

-- a block at one of the first places of an extent
place_there : (sh : Shape) (es : List Extent) (i n : ℕ) → Limits sh → ((x : ℕ) → has_extent es x ≡ true → is_extent sh x ≡ true) → n < LEAST_EXTENT_BLOCKS → block_in sh (extent_at es i) n < sh.blocks
place_there sh es i n l w m = go (extent_at es i) refl
  where
    go : (o : Option Extent) → extent_at es i ≡ o → block_in sh o n < sh.blocks
    go None e = (let a = l.all in omega (arith, a))
    go (Some x) e = let k = leb-true (first_block sh x.number + sh.extent) sh.blocks (w x.number (found_has es i x e)) in let f = l.extent_from in omega (arith, k, m, f)

at_there : (sh : Shape) (S : List Record) (o i n : ℕ) → Limits sh → AreAllowed sh S → n < LEAST_EXTENT_BLOCKS → block_in sh (extent_at (extents_of S o) i) n < sh.blocks
at_there sh S o i n l h m = place_there sh (extents_of S o) i n l (placed sh S o h).whole m

extent_there : (sh : Shape) (x : ℕ) → Limits sh → is_extent sh x ≡ true → first_block sh x + LEAST_EXTENT_BLOCKS ≤ sh.blocks
extent_there sh x l e = let k = leb-true (first_block sh x + sh.extent) sh.blocks e in let f = l.extent_from in omega (arith, k, f)

free_whole : (sh : Shape) (R : List Record) (x : ℕ) → is_free_extent sh R x ≡ true → is_extent sh x ≡ true
free_whole sh R x f = (and_parts (is_extent sh x) (not (is_taken R MOST_TABLES x)) f).0

step_there : (sh : Shape) (R : List Record) (r : Record) (st : Step) → Limits sh → AreAllowed sh (r ∷ R) → effect_of r ≡ Adds st → (st.undo.block < sh.blocks) × AreThere sh (blocks_of st.parts)
step_there sh R r st l h e =
    let b = subst (EffectBasics R) e (basics sh R r h.1.kind) in
    let c = (current_bound sh R st.undo.block l.undo_from h.0 b.undo.current).1 in
    let a = l.all in
    (omega (arith, c, a), parts_there sh st.parts (every-map (λ (p : RowPart). IsRowBlock sh R st.obj p.dba) _ st.parts (λ p x. row_there sh R st.obj p.dba h.0 x) (step_home sh R r st h e)))

row_touched : (sh : Shape) (R : List Record) (r : Record) (w : RowBody) (d : Bool) → Limits sh → AreAllowed sh (r ∷ R) → effect_of r ≡ Adds (row_step w d) → AreThere sh (touched_by_row w)
row_touched sh R r w d l h e = let x = step_there sh R r (row_step w d) l h e in ((let a = l.all in omega (arith, a)), (x.0, x.1))

first_there : (sh : Shape) (b : ℕ) → b < sh.blocks → first_of sh b < sh.blocks
first_there sh b l = omega (arith, l)

l2_there : (sh : Shape) (es : List Extent) (i : ℕ) (os : List (Option ℕ)) → Limits sh → ((x : ℕ) → has_extent es x ≡ true → is_extent sh x ≡ true) → AreThere sh (those os) → AreThere sh (those (l2_at sh (extent_at es i) ∷ os))
l2_there sh es i os l w k = go (extent_at es i) refl
  where
    go : (o : Option Extent) → extent_at es i ≡ o → AreThere sh (those (l2_at sh o ∷ os))
    go None e = k
    go (Some x) e = (subst (λ z. block_in sh z 1 < sh.blocks) e (place_there sh es i 1 l w (omega arith)), k)

sorts_there : (sh : Shape) (R : List Record) (r : Record) → Limits sh → AreAllowed sh (r ∷ R) → IsKindAllowed sh R r → AreThere sh (touched_sorts sh r)
sorts_there sh R (Extend e) l h a = (
  subst (λ n. n < sh.blocks) (sym a.l2) (at_there sh (Extend e ∷ R) e.obj (group_start e.index) 1 l h (omega arith)),
  (
    subst (λ n. n < sh.blocks) (sym a.l3) (at_there sh (Extend e ∷ R) e.obj 0 2 l h (omega arith)),
    ((let k = extent_there sh e.extent l (free_whole sh R e.extent a.extent.free) in omega (arith, k)), tt),
  ),
)
sorts_there sh R (FormatBlock f) l h a =
    let d = (data_bound sh R f.obj f.dba h.0 (in_take f.dba (high_mark R f.obj) (data_blocks sh R f.obj) (format_first sh R f a).0)).1 in (
      d,
      (
        subst (λ n. n < sh.blocks) (sym a.bitmaps.l2_is) (at_there sh R f.obj (group_start f.index) 1 l h.0 (omega arith)),
        (
          subst (λ n. n < sh.blocks) (sym a.bitmaps.l3_is) (at_there sh R f.obj 0 2 l h.0 (omega arith)),
          (first_there sh f.dba d, tt),
        ),
      ),
    )
sorts_there sh R (Class k) l h a =
    let d = row_there sh R k.obj k.dba h.0 a.here in (
      subst (λ n. n < sh.blocks) (sym a.bitmaps.l2_is) (at_there sh R k.obj (group_start k.index) 1 l h.0 (omega arith)),
      (
        subst (λ n. n < sh.blocks) (sym a.bitmaps.l3_is) (at_there sh R k.obj 0 2 l h.0 (omega arith)),
        (first_there sh k.dba d, tt),
      ),
    )
sorts_there sh R (Begin g) l h a = ((let k = l.all in omega (arith, k)), tt)
sorts_there sh R (Reuse q) l h a = ((let k = l.all in omega (arith, k)), ((let b = (reuse_bound sh R q.block l.undo_from h.0 a.block.next).1 in let k = l.all in omega (arith, b, k)), tt))
sorts_there sh R (Insert w) l h a = row_touched sh R (Insert w) w false l h refl
sorts_there sh R (Update w) l h a = row_touched sh R (Update w) w false l h refl
sorts_there sh R (Migrate w) l h a = row_touched sh R (Migrate w) w false l h refl
sorts_there sh R (Return w) l h a = row_touched sh R (Return w) w false l h refl
sorts_there sh R (Delete w) l h a = row_touched sh R (Delete w) w true l h refl
sorts_there sh R (Commit c) l h a = ((let k = l.all in omega (arith, k)), tt)
sorts_there sh R (Back k) l h a = ((let x = l.all in omega (arith, x)), backs_there sh k.parts (every-map (λ (q : BackPart). SomeHome sh R q.dba) _ k.parts (λ q x. row_there sh R x.0 q.dba h.0 x.1) (back_home sh R k h)))
sorts_there sh R (Ended e) l h a = ((let k = l.all in omega (arith, k)), tt)
sorts_there sh R (Move m) l h a = step_there sh R (Move m) (move_step m) l h refl
sorts_there sh R (Clean c) l h a = (row_there sh R a.obj c.dba h.0 a.here, tt)
sorts_there sh R (Table t) l h a = tt
sorts_there sh R (Movement m) l h a = tt
sorts_there sh R (Advance x) l h a = tt
sorts_there sh R (Lower x) l h a =
    let es = take x.kept (extents_of R x.obj) in
    let w : (y : ℕ) → has_extent es y ≡ true → is_extent sh y ≡ true = λ y k. (placed sh R x.obj h.0).whole y (has_taken x.kept (extents_of R x.obj) y k) in (
      subst (λ n. n < sh.blocks) (sym a.l3) (at_there sh R x.obj 0 2 l h.0 (omega arith)),
      subst (λ (os : List (Option ℕ)). AreThere sh (those os)) (sym a.l2)
          (l2_there sh es 0 (l2_at sh (extent_at es EXTENTS_OF_L2) ∷ l2_at sh (extent_at es (2 * EXTENTS_OF_L2)) ∷ []) l w (l2_there sh es EXTENTS_OF_L2 (l2_at sh (extent_at es (2 * EXTENTS_OF_L2)) ∷ []) l w (l2_there sh es (2 * EXTENTS_OF_L2) [] l w tt))),
    )

space_there : (sh : Shape) → Limits sh → 3 < sh.blocks
space_there sh l = (let k = l.all in omega (arith, k))

heads_there : (sh : Shape) (R : List Record) (r : Record) → Limits sh → AreAllowed sh (r ∷ R) → IsKindAllowed sh R r → AreThere sh (touched_heads r)
heads_there sh R (Table t) l h a = ((let k = l.all in omega (arith, k)), ((let k = extent_there sh a.extent l (free_whole sh R a.extent a.room.free) in let e = a.header in omega (arith, k, e)), tt))
heads_there sh R (Movement m) l h a = (subst (λ n. n < sh.blocks) (sym a.header) (at_there sh R m.obj 0 3 l h.0 (omega arith)), tt)
heads_there sh R (Extend e) l h a = (space_there sh l, (subst (λ n. n < sh.blocks) (sym a.header) (at_there sh (Extend e ∷ R) e.obj 0 3 l h (omega arith)), tt))
heads_there sh R (Advance x) l h a = (subst (λ n. n < sh.blocks) (sym a.header) (at_there sh R x.obj 0 3 l h.0 (omega arith)), tt)
heads_there sh R (Lower x) l h a = (space_there sh l, (subst (λ n. n < sh.blocks) (sym a.header) (at_there sh R x.obj 0 3 l h.0 (omega arith)), tt))
heads_there sh R _ l h a = tt

pub touched_are_there : TouchedAreThere
touched_are_there sh R r d s h m =
    let l = limits sh s in
    among_there sh (touched sh r) d (both_there sh (touched_heads r) (touched_sorts sh r) (heads_there sh R r l h h.1.kind) (sorts_there sh R r l h h.1.kind)) m
