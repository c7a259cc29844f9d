-- Each allowed record has a spelling.
use Rattle.std.proofs.Common.{◌≡◌, ℕ, zero, suc, ◌+◌, ◌*◌, ◌<◌, ◌≤◌, ◌^◌, Bool, true, false, not, eqb, List, [], ◌∷◌, length, map, take, drop, Option, Some, None, refl, sym, ◌∙◌, ap, subst, arith, le_refl, leb-true, eq-eqb}
use Rattle.seg_words.proofs.Lemmas.{and_parts, or_left, or_right}
use Rattle.seg_words.specs.Types.{AllByRecursion, Shape, first_block, is_extent, is_shape, TXN_ENTRIES, MOST_TABLES, MOST_EXTENTS, EXTENTS_OF_L2, LEAST_EXTENT_BLOCKS}
use Rattle.redo_model.specs.Records.{Record, Table, Movement, Extend, FormatBlock, Class, Advance, Lower, Begin, Reuse, Insert, Update, Migrate, Return, Delete, Commit, Back, Ended, Move, Clean, RowPart, RowBody, BackRecord, MoveRecord, TableRecord, MovementRecord, ExtendRecord, FormatBlockRecord, ClassRecord, AdvanceRecord, LowerRecord, BeginRecord, ReuseRecord, CommitRecord, EndedRecord, IsBlock, IsUndo, IsPlace, IsRowPart, IsBackPart, IsRowBody, IsBack, IsMove, IsTable, IsMovement, IsExtend, IsFormatBlock, IsClass, IsAdvance, IsThree, AreExtents, IsLower, IsBegin, IsReuse, IsCommit, IsEnded, HasSpelling}
use Rattle.redo_model.specs.Model.{Step, effect_of, row_step, move_step, is_commit, is_begin, is_lower, is_active, entry_of, standing, Extent, extents_of, data_blocks, high_mark, under_high, has_extent, extent_at, block_in, is_taken, is_free_extent, group_start, index_of, TableAllowed, MovementAllowed, ExtendAllowed, FormatAllowed, ClassAllowed, AdvanceAllowed, LowerAllowed, l2_at, TakesEntry, BeginAllowed, ReuseAllowed, CommitAllowed, EndedAllowed, taken_back, BackAllowed, MayChange, MigrateAllowed, DeleteAllowed, MoveAllowed, image, IsKindAllowed, AreAllowed}
use Rattle.redo_model.specs.AllowedTransactions.{takes_unused, takes_rolled_back, takes_committed}
use Rattle.redo_model.specs.AllowedRows.{migrates_plain, migrates_again, deletes_plain, deletes_migrated}
use Rattle.redo_laws.specs.Fit.{EachFits, EffectFits}
use Rattle.redo_laws.specs.Spelled.{RecordsAreSpelled}
use Rattle.redo_laws.proofs.lists.Every.{Every, every-filter}
use Rattle.redo_laws.proofs.allowed.Basics.{Basics, EffectBasics, basics, move_may}
use Rattle.redo_laws.proofs.space.Places.{in_contains, in_take, has_taken, segments, format_first}
use Rattle.redo_laws.proofs.allowed.AllKinds.{RecordShape, shape_of}
use Rattle.redo_laws.proofs.allowed.Shapes.{StepShape}
use Rattle.redo_laws.proofs.spread.Whole.{whole}
use Rattle.redo_laws.proofs.room.RoomLaw.{small}
use Rattle.redo_laws.proofs.room.FitLaw.{records_fit_blocks}
use Rattle.redo_laws.proofs.numbers.TxnTable.{rises, txn_table, same_some}
use Rattle.redo_laws.proofs.space.ApartLaw.{placed, take_short}
use Rattle.redo_laws.proofs.numbers.Bounds.{count_short, sequence_short, limits, data_bound, block_in_bound, index_bound, l1_best_bound, l2_best_bound, data_few, reuse_bound}
use Rattle.redo_laws.proofs.spelled.SpelledRows.{KindFacts, StepSpelled, EffectSpelled, ImagesSpelled, Before, new_spelled, image_spelled, steps_spelled, newest_spelled, last_spelled, step_spelled}
use Rattle.redo_laws.proofs.spelled.SpelledKinds.{table_number, EffectFacts, facts_of}
use Rattle.redo_laws.proofs.spelled.SpelledCleans.{clean_numbers, clean_spelled}

-- tables, extents and blocks

small_block : (sh : Shape) (R : List Record) (n : ℕ) → Before sh R → n ≤ sh.blocks → n < 2 ^ 32
small_block sh R n q l = let m = q.limits.most in omega (arith, l, m)

extent_small : (sh : Shape) (R : List Record) (x : ℕ) → Before sh R → is_extent sh x ≡ true → (x < 2 ^ 32) × (first_block sh x + LEAST_EXTENT_BLOCKS ≤ sh.blocks)
extent_small sh R x q e =
    let l = leb-true (first_block sh x + sh.extent) sh.blocks e in
    let m = q.limits.most in
    let w = q.limits.extent_from in
    let k = times x sh.extent (omega (arith, w)) in
    (omega (arith, l, m, k), omega (arith, l, w))
  where
    times : (x n : ℕ) → 1 ≤ n → x ≤ x * n
    times zero n l = omega arith
    times (suc x) n l = let k = times x n l in omega (arith, k, l)

free_is_extent : (sh : Shape) (R : List Record) (x : ℕ) → is_free_extent sh R x ≡ true → is_extent sh x ≡ true
free_is_extent sh R x f = (and_parts (is_extent sh x) (not (is_taken R MOST_TABLES x)) f).0

table_spelled : (sh : Shape) (R : List Record) (t : TableRecord) → Before sh R → TableAllowed sh R t → IsTable t
table_spelled sh R t q a =
    let n = a.number in
    let f = a.few in
    let h = a.header in
    let x = (extent_small sh R a.extent q (free_is_extent sh R a.extent a.room.free)).1 in
    record { obj = (omega (arith, n), omega (arith, n, f)); header = small_block sh R t.header q (omega (arith, h, x)); pctfree = a.pctfree; name = a.named }

-- a block at one of the first places of an extent of the table
place_small : (sh : Shape) (R : List Record) (S : List Record) (o i n : ℕ) → Before sh R → AreAllowed sh S → n < LEAST_EXTENT_BLOCKS → block_in sh (extent_at (extents_of S o) i) n < 2 ^ 32
place_small sh R S o i n q h l = let w = q.limits.extent_from in small_block sh R (block_in sh (extent_at (extents_of S o) i) n) q (block_in_bound sh (extents_of S o) i n (placed sh S o h).whole (omega (arith, l, w)))

movement_spelled : (sh : Shape) (R : List Record) (m : MovementRecord) → Before sh R → MovementAllowed sh R m → IsMovement m
movement_spelled sh R m q a = record { obj = table_number sh R m.obj q a.table; header = subst (λ n. n < 2 ^ 32) (sym a.header) (place_small sh R R m.obj 0 3 q q.allowed (omega arith)) }

extend_spelled : (sh : Shape) (R : List Record) (e : ExtendRecord) → Before sh R → AreAllowed sh (Extend e ∷ R) → ExtendAllowed sh R e → IsExtend e
extend_spelled sh R e q h a =
    let f = a.few in
    record {
      obj = table_number sh R e.obj q a.table;
      header = subst (λ n. n < 2 ^ 32) (sym a.header) (place_small sh R (Extend e ∷ R) e.obj 0 3 q h (omega arith));
      index = omega (arith, f);
      extent = (extent_small sh R e.extent q (free_is_extent sh R e.extent a.extent.free)).0;
      l2 = subst (λ n. n < 2 ^ 32) (sym a.l2) (place_small sh R (Extend e ∷ R) e.obj (group_start e.index) 1 q h (omega arith));
      l3 = subst (λ n. n < 2 ^ 32) (sym a.l3) (place_small sh R (Extend e ∷ R) e.obj 0 2 q h (omega arith));
    }

index_small : (sh : Shape) (R : List Record) (o b : ℕ) → Before sh R → index_of sh (extents_of R o) b < 2 ^ 16
index_small sh R o b q = let l = index_bound sh (extents_of R o) b in let f = (placed sh R o q.allowed).few in omega (arith, l, f)

format_spelled : (sh : Shape) (R : List Record) (f : FormatBlockRecord) → Before sh R → FormatAllowed sh R f → IsFormatBlock f
format_spelled sh R f q a =
    let d = (data_bound sh R f.obj f.dba q.allowed (in_take f.dba (high_mark R f.obj) (data_blocks sh R f.obj) (format_first sh R f a).0)).1 in
    record {
      obj = table_number sh R f.obj q a.table;
      dba = small_block sh R f.dba q (omega (arith, d));
      l2 = subst (λ n. n < 2 ^ 32) (sym a.bitmaps.l2_is) (place_small sh R R f.obj (group_start f.index) 1 q q.allowed (omega arith));
      l3 = subst (λ n. n < 2 ^ 32) (sym a.bitmaps.l3_is) (place_small sh R R f.obj 0 2 q q.allowed (omega arith));
      index = subst (λ n. n < 2 ^ 16) (sym a.bitmaps.index_is) (index_small sh R f.obj f.dba q);
      best_of_l1 = subst (λ n. n ≤ 5) (sym a.bests.l1) (l1_best_bound sh (FormatBlock f ∷ R) f.obj f.index);
      best_of_l2 = subst (λ n. n ≤ 5) (sym a.bests.l2) (l2_best_bound sh (FormatBlock f ∷ R) f.obj (group_start f.index));
    }

class_spelled : (sh : Shape) (R : List Record) (k : ClassRecord) → Before sh R → ClassAllowed sh R k → IsClass k
class_spelled sh R k q a =
    let here = a.here.here in
    let d = (data_bound sh R k.obj k.dba q.allowed (in_take k.dba (high_mark R k.obj) (data_blocks sh R k.obj) (in_contains (under_high sh R k.obj) k.dba here.0 here.1 here.2))).1 in
    record {
      obj = table_number sh R k.obj q a.table;
      dba = small_block sh R k.dba q (omega (arith, d));
      l2 = subst (λ n. n < 2 ^ 32) (sym a.bitmaps.l2_is) (place_small sh R R k.obj (group_start k.index) 1 q q.allowed (omega arith));
      l3 = subst (λ n. n < 2 ^ 32) (sym a.bitmaps.l3_is) (place_small sh R R k.obj 0 2 q q.allowed (omega arith));
      index = subst (λ n. n < 2 ^ 16) (sym a.bitmaps.index_is) (index_small sh R k.obj k.dba q);
      best_of_l1 = subst (λ n. n ≤ 5) (sym a.bests.l1) (l1_best_bound sh (Class k ∷ R) k.obj k.index);
      best_of_l2 = subst (λ n. n ≤ 5) (sym a.bests.l2) (l2_best_bound sh (Class k ∷ R) k.obj (group_start k.index));
    }

advance_spelled : (sh : Shape) (R : List Record) (m : AdvanceRecord) → Before sh R → AdvanceAllowed sh R m → IsAdvance m
advance_spelled sh R m q a =
    let all = data_few sh 0 (extents_of R m.obj) (placed sh R m.obj q.allowed).few q.limits.extent_to in
    let low = a.low in
    let room = a.room in
    let high = a.high in
    record {
      obj = table_number sh R m.obj q a.table;
      header = subst (λ n. n < 2 ^ 32) (sym a.header) (place_small sh R R m.obj 0 3 q q.allowed (omega arith));
      low = omega (arith, low, room, all);
      high = omega (arith, high, all);
    }

-- a Lower

has_dropped : (n : ℕ) (es : List Extent) (x : ℕ) → has_extent (drop n es) x ≡ true → has_extent es x ≡ true
has_dropped zero es x h = h
has_dropped (suc n) [] x h = h
has_dropped (suc n) (e ∷ es) x h = or_right (eqb e.number x) _ (has_dropped n es x h)

drop_short : (n : ℕ) (es : List Extent) → length (drop n es) ≤ length es
drop_short zero es = le_refl (length es)
drop_short (suc n) [] = omega arith
drop_short (suc n) (e ∷ es) = let k = drop_short n es in omega (arith, k)

released_spelled : (sh : Shape) (R : List Record) (es : List Extent) → Before sh R → ((x : ℕ) → has_extent es x ≡ true → is_extent sh x ≡ true) → length es ≤ MOST_EXTENTS → AreExtents (map (λ (e : Extent). e.number) es)
released_spelled sh R es q w l = record { count = count es l; each = each es w }
  where
    names_length : (es : List Extent) → length (map (λ (e : Extent). e.number) es) ≡ length es
    names_length [] = refl
    names_length (e ∷ es) = ap (λ n. suc n) (names_length es)

    count : (es : List Extent) → length es ≤ MOST_EXTENTS → length (map (λ (e : Extent). e.number) es) < 2 ^ 16
    count es l = let k = names_length es in omega (arith, k, l)

    each : (es : List Extent) → ((x : ℕ) → has_extent es x ≡ true → is_extent sh x ≡ true) → AllByRecursion (λ x. x < 2 ^ 32) (map (λ (e : Extent). e.number) es)
    each [] w = tt
    each (e ∷ es) w = ((extent_small sh R e.number q (w e.number (or_left _ _ (own e.number)))).0, each es (λ x h. w x (or_right (eqb e.number x) _ h)))
      where
        own : (n : ℕ) → eqb n n ≡ true
        own n = eq-eqb n n refl

lower_spelled : (sh : Shape) (R : List Record) (l : LowerRecord) → Before sh R → LowerAllowed sh R l → IsLower l
lower_spelled sh R l q a =
    let es = extents_of R l.obj in
    let p = placed sh R l.obj q.allowed in
    let few = p.few in
    let kept = a.not_none in
    let n = a.lowering in
    let c = count_short is_lower R in
    let short = q.short in
    let t = take_short l.kept es in
    let all = data_few sh 0 (take l.kept es) (omega (arith, t, few)) q.limits.extent_to in
    let high = a.high in
    let low = a.low in
    let s = drop_short l.kept es in
    record {
      obj = table_number sh R l.obj q a.table;
      header = subst (λ k. k < 2 ^ 32) (sym a.header) (place_small sh R R l.obj 0 3 q q.allowed (omega arith));
      lowering = omega (arith, n, c, short);
      kept = omega (arith, kept, few);
      low = omega (arith, low, high, all);
      high = omega (arith, high, all);
      l2 = subst (IsThree IsBlock) (sym a.l2) (record { count = refl; each = (l2_small 0, (l2_small EXTENTS_OF_L2, (l2_small (2 * EXTENTS_OF_L2), tt))) });
      l3 = subst (λ k. k < 2 ^ 32) (sym a.l3) (place_small sh R R l.obj 0 2 q q.allowed (omega arith));
      bests = subst (IsThree (λ k. k ≤ 5)) (sym a.bests) (record { count = refl; each = (l2_best_bound sh (Lower l ∷ R) l.obj 0, (l2_best_bound sh (Lower l ∷ R) l.obj EXTENTS_OF_L2, (l2_best_bound sh (Lower l ∷ R) l.obj (2 * EXTENTS_OF_L2), tt))) });
      released = subst AreExtents (sym a.released) (released_spelled sh R (drop l.kept es) q (λ x h. p.whole x (has_dropped l.kept es x h)) (omega (arith, s, few)));
    }
  where
    l2_small : (i : ℕ) → IsBlock (l2_at sh (extent_at (take l.kept (extents_of R l.obj)) i))
    l2_small i = go (extent_at (take l.kept (extents_of R l.obj)) i) (block_in_bound sh (take l.kept (extents_of R l.obj)) i 1 (λ x h. (placed sh R l.obj q.allowed).whole x (has_taken l.kept (extents_of R l.obj) x h)) (let w = q.limits.extent_from in omega (arith, w)))
      where
        go : (o : Option Extent) → block_in sh o 1 ≤ sh.blocks → IsBlock (l2_at sh o)
        go None k = tt
        go (Some e) k = (omega arith, small_block sh R (first_block sh e.number + 1) q k)

-- transactions

txn_small : (sh : Shape) (R : List Record) (t : ℕ) → Before sh R → is_active R t ≡ true → t < 2 ^ 64
txn_small sh R t q h =
    let x = txn_table sh R q.allowed in
    let m = x.most t (x.begun t h) in
    let c = count_short is_begin R in
    let short = q.short in
    omega (arith, m, c, short)

entry_small : (sh : Shape) (R : List Record) (t i : ℕ) → Before sh R → is_active R t ≡ true → entry_of R t ≡ Some i → i < 2 ^ 8
entry_small sh R t i q h e =
    let x = txn_table sh R q.allowed in
    let w = x.entered t (x.begun t h) in
    let s : w.0 ≡ i = same_some w.0 i (sym w.1 ∙ e) in
    let l = w.2 in
    omega (arith, s, l)

entry_within : (R : List Record) (i c : ℕ) → TakesEntry R i c → i < TXN_ENTRIES
entry_within R i c (takes_unused a) = a.within
entry_within R i c (takes_rolled_back a) = a.within
entry_within R i c (takes_committed a) = a.within

begin_spelled : (sh : Shape) (R : List Record) (g : BeginRecord) → Before sh R → BeginAllowed R g → IsBegin g
begin_spelled sh R g q a =
    let n = a.number in
    let c = count_short is_begin R in
    let short = q.short in
    let s = a.session_to in
    let e = entry_within R g.entry g.control a.entry in
    let m = (rises R g.entry g.control (txn_table sh R q.allowed) a.entry).most in
    let d = count_short is_commit R in
    record { txn = omega (arith, n, c, short); session = omega (arith, s); entry = omega (arith, e); control = omega (arith, m, d, short) }

reuse_spelled : (sh : Shape) (R : List Record) (u : ReuseRecord) → Before sh R → ReuseAllowed sh R u → IsReuse u
reuse_spelled sh R u q a =
    let b = (reuse_bound sh R u.block q.limits.undo_from q.allowed a.block.next).1 in
    let all = q.limits.all in
    let most = q.limits.most in
    let n = a.sequence in
    let c = sequence_short R u.block in
    let short = q.short in
    record { block = omega (arith, b, all, most); sequence = omega (arith, n, c, short) }

commit_spelled : (sh : Shape) (R : List Record) (c : CommitRecord) → Before sh R → CommitAllowed R c → IsCommit c
commit_spelled sh R c q a =
    let n = a.number in
    let k = count_short is_commit R in
    let short = q.short in
    record { txn = txn_small sh R c.txn q a.active; number = omega (arith, n, k, short); entry = entry_small sh R c.txn c.entry q a.active a.entry }

ended_spelled : (sh : Shape) (R : List Record) (e : EndedRecord) → Before sh R → EndedAllowed R e → IsEnded e
ended_spelled sh R e q a = record { txn = txn_small sh R e.txn q a.active; entry = entry_small sh R e.txn e.entry q a.active a.entry }

-- row records, Moves and Backs

taken_spelled : (ps : List RowPart) → AllByRecursion IsRowPart ps → AllByRecursion IsBackPart (taken_back ps)
taken_spelled [] h = tt
taken_spelled (p ∷ ps) h = (record { dba = h.0.dba; slot = h.0.slot; entry = h.0.entry; new = h.0.old }, taken_spelled ps h.1)

taken_length : (ps : List RowPart) → length (taken_back ps) ≡ length ps
taken_length [] = refl
taken_length (p ∷ ps) = ap (λ n. suc n) (taken_length ps)

back_step : (sh : Shape) (R : List Record) (k : BackRecord) → Before sh R → (a : BackAllowed R k) → StepSpelled a.step
back_step sh R k q a = newest_spelled (standing R) k.txn a.step q.steps a.newest

back_parts : (sh : Shape) (R : List Record) (k : BackRecord) → Before sh R → BackAllowed R k → AllByRecursion IsBackPart k.parts
back_parts sh R k q a = subst (AllByRecursion IsBackPart) (sym a.parts) (taken_spelled a.step.parts (back_step sh R k q a).parts.each)

back_spelled : (sh : Shape) (R : List Record) (k : BackRecord) → Before sh R → BackAllowed R k → IsBack k
back_spelled sh R k q a =
    let s = back_step sh R k q a in
    let n : length k.parts ≡ length a.step.parts = ap length a.parts ∙ taken_length a.step.parts in
    let least = s.parts.least in
    let most = s.parts.most in
    record {
      txn = txn_small sh R k.txn q a.active;
      entry = entry_small sh R k.txn k.entry q a.active a.entry;
      obj = subst (λ o. (1 ≤ o) × (o ≤ MOST_TABLES)) (sym a.obj) s.obj;
      row = subst (λ r. r < 2 ^ 64) (sym a.row) s.row;
      undo = (subst (λ u. IsUndo (Some u)) (sym a.undo) s.undo).1;
      previous = subst IsPlace (sym a.previous) s.previous;
      parts = record { least = omega (arith, n, least); most = omega (arith, n, most); each = back_parts sh R k q a };
      last = subst IsUndo (sym a.last) (last_spelled _ k.txn (every-filter _ _ (standing R) q.steps));
    }

row_spelled : (sh : Shape) (R : List Record) (w : RowBody) (d : Bool) → Before sh R → MayChange R w → StepSpelled (row_step w d) → IsRowBody w
row_spelled sh R w d q c s = record { txn = txn_small sh R w.txn q c.active; entry = entry_small sh R w.txn w.entry q c.active c.entry; obj = s.obj; row = s.row; undo = s.undo.1; previous = s.previous; parts = s.parts }

may_migrate : (sh : Shape) (R : List Record) (w : RowBody) → MigrateAllowed sh R w → MayChange R w
may_migrate sh R w (migrates_plain a) = a.change.change
may_migrate sh R w (migrates_again a) = a.change.change

may_delete : (sh : Shape) (R : List Record) (w : RowBody) → DeleteAllowed sh R w → MayChange R w
may_delete sh R w (deletes_plain a) = a.change.change
may_delete sh R w (deletes_migrated a) = a.change.change

move_spelled : (sh : Shape) (R : List Record) (m : MoveRecord) → Before sh R → MoveAllowed sh R m → StepSpelled (move_step m) → IsMove m
move_spelled sh R m q a s =
    let n = (move_may sh R m a).number in
    let c = count_short is_commit R in
    let short = q.short in
    record { obj = s.obj; row = s.row; undo = s.undo.1; parts = s.parts; number = omega (arith, n, c, short) }

-- what a record does, in spelled parts

step_of : (sh : Shape) (R : List Record) (st : Step) → Before sh R → Basics R st → KindFacts st → StepShape sh R st → EachFits R st.parts → StepSpelled st
step_of sh R st q b k x f = step_spelled sh R st q b k x.replaces x.puts f

effect_spelled : (sh : Shape) (R : List Record) (r : Record) → Before sh R → IsKindAllowed sh R r → EffectBasics R (effect_of r) → EffectFacts (effect_of r) → RecordShape sh R r → EffectFits R (effect_of r) → EffectSpelled (effect_of r)
effect_spelled sh R (Insert w) q a b k x f = step_of sh R (row_step w false) q b k x f
effect_spelled sh R (Update w) q a b k x f = step_of sh R (row_step w false) q b k x.shape f
effect_spelled sh R (Migrate w) q a b k x f = step_of sh R (row_step w false) q b k x.shape f
effect_spelled sh R (Return w) q a b k x f = step_of sh R (row_step w false) q b k x.shape f
effect_spelled sh R (Delete w) q a b k x f = step_of sh R (row_step w true) q b k x.shape f
effect_spelled sh R (Move m) q a b k x f = step_of sh R (move_step m) q b k x.shape f
effect_spelled sh R (Back t) q a b k x f = back_parts sh R t q a
effect_spelled sh R (Clean c) q a b k x f = clean_numbers sh R c q a
effect_spelled sh R _ q a b k x f = tt

-- the images and the standing records of a list

pub record Spelled (R : List Record) : Type 0 where
  pub images : ImagesSpelled R
  pub steps : Every StepSpelled (standing R)

pub before : (sh : Shape) (R : List Record) → is_shape sh ≡ true → suc (length R) < 2 ^ 64 → AreAllowed sh R → Spelled R → Before sh R
before sh R h l a s = record { limits = limits sh h; allowed = a; whole = whole sh R a; room = (small sh R a).room; images = s.images; steps = s.steps; short = l }

effect_of_allowed : (sh : Shape) (R : List Record) (r : Record) → Before sh R → AreAllowed sh (r ∷ R) → EffectSpelled (effect_of r)
effect_of_allowed sh R r q h = let a = h.1.kind in effect_spelled sh R r q a (basics sh R r a) (facts_of sh R r q a) (shape_of sh R r (segments sh R h.0) a) (records_fit_blocks sh R r h)

pub spelled : (sh : Shape) (R : List Record) → is_shape sh ≡ true → suc (length R) < 2 ^ 64 → AreAllowed sh R → Spelled R
spelled sh [] h l a = record { images = λ b k. new_spelled; steps = tt }
spelled sh (r ∷ R) h l a =
    let less : suc (length R) < 2 ^ 64 = omega (arith, l) in
    let s = spelled sh R h less a.0 in
    let e = effect_of_allowed sh R r (before sh R h less a.0 s) a in
    record { images = λ b k. image_spelled (effect_of r) b k (image R b k) e (s.images b k); steps = steps_spelled (effect_of r) (standing R) e s.steps }

-- each kind

has_spelling : (sh : Shape) (R : List Record) (r : Record) → Before sh R → AreAllowed sh (r ∷ R) → IsKindAllowed sh R r → EffectSpelled (effect_of r) → HasSpelling r
has_spelling sh R (Table t) q h a e = table_spelled sh R t q a
has_spelling sh R (Movement m) q h a e = movement_spelled sh R m q a
has_spelling sh R (Extend x) q h a e = extend_spelled sh R x q h a
has_spelling sh R (FormatBlock f) q h a e = format_spelled sh R f q a
has_spelling sh R (Class k) q h a e = class_spelled sh R k q a
has_spelling sh R (Advance m) q h a e = advance_spelled sh R m q a
has_spelling sh R (Lower l) q h a e = lower_spelled sh R l q a
has_spelling sh R (Begin g) q h a e = begin_spelled sh R g q a
has_spelling sh R (Reuse u) q h a e = reuse_spelled sh R u q a
has_spelling sh R (Insert w) q h a e = row_spelled sh R w false q a.change e
has_spelling sh R (Update w) q h a e = row_spelled sh R w false q a.change.change e
has_spelling sh R (Migrate w) q h a e = row_spelled sh R w false q (may_migrate sh R w a) e
has_spelling sh R (Return w) q h a e = row_spelled sh R w false q a.change.change e
has_spelling sh R (Delete w) q h a e = row_spelled sh R w true q (may_delete sh R w a) e
has_spelling sh R (Commit c) q h a e = commit_spelled sh R c q a
has_spelling sh R (Back k) q h a e = back_spelled sh R k q a
has_spelling sh R (Ended x) q h a e = ended_spelled sh R x q a
has_spelling sh R (Move m) q h a e = move_spelled sh R m q a e
has_spelling sh R (Clean c) q h a e = clean_spelled sh R c q a

pub records_are_spelled : RecordsAreSpelled
records_are_spelled sh R r h l a =
    let q = before sh R h l a.0 (spelled sh R h l a.0) in
    has_spelling sh R r q a a.1.kind (effect_of_allowed sh R r q a)
