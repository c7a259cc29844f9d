-- What a refusal passes over.
use Rattle.std.proofs.Common.{◌≡◌, ℕ, ◌<◌, true, false, not, ◌&&◌, ltb, List, [], length, Option, Some, None, refl, sym, ◌∙◌, ap, ap₂, subst, arith, true≢false}
use Rattle.std.specs.Prelude.{MatchOption}
use Rattle.seg_words.proofs.Lemmas.{and_parts}
use Rattle.seg_words.specs.Types.{Shape, Writer, By, At, MOST_EXTENTS}
use Rattle.redo_model.specs.Records.{Record}
use Rattle.redo_model.specs.Model.{Step, standing, newest_on, view, commit_count, is_active, IsFreeFor, number_or_zero, extents_of, IsRowBlock, AreAllowed}
use Rattle.mark_laws.specs.Searches.{Sought, is_usable}
use Rattle.mark_laws.proofs.SearchesLaw.{found_takes}
use Rattle.change_laws.specs.Drafts.{Stand}
use Rattle.change_laws.specs.Ready.{first_lacking, StandsAt}
use Rattle.change_laws.specs.Causes.{IsBusy}
use Rattle.change_laws.proofs.CauseLaw.{rows_stand_once}
use Rattle.script_text.specs.declared.statement.Statement.{Statement}
use Rattle.script_text.specs.declared.statement.Statement.TheVariants as asked
use Rattle.script_text.specs.declared.statement.Target.{Target}
use Rattle.history_text.specs.declared.refusal.Refusal.{Refusal}
use Rattle.history_text.specs.declared.refusal.Refusal.TheVariants as why
use Rattle.history_model.specs.Spans.{Span, own_then}
use Rattle.history_model.specs.Order.{rank, is_no_bar, is_after_starts, is_again, bars}
use Rattle.history_model.specs.Passing.{FirstPass}
use Rattle.history_model.specs.Causes.{IsOnRow, row_seen, IsNoRow, IsRowBusy, must_change, IsEntryless, Seeks, sought_for, own_blocks, IsNoSpace, IsNoRoom, IsMaxExtents, Needs, IsNoUndo, IsObjectGone, Cause}
use Rattle.history_model.proofs.Targets.{same_some, one_obj, one_row}
use Rattle.history_laws.specs.Refusals.{NoRowIsRefused, BusyIsRefused, AgainIsRefused, NoSlotIsRefused, NoSpaceIsRefused, NoExtentIsRefused, MaxExtentsIsRefused, UndoFullIsRefused, InsertsPass, WritesPass, EntriesPass, FoundPass}
use Rattle.history_laws.proofs.Frames.{zero_is}

-- the row of a statement is seen in one way
seen_once : (x : Span) (st : Statement) (o n p m : ℕ) (was : Option (List ℕ)) → IsOnRow x st o n → IsOnRow x st p m → row_seen x o n ≡ was → row_seen x p m ≡ was
seen_once x st o n p m was h k e = subst (λ v. row_seen x v m ≡ was) (one_obj x st o n p m h k) (subst (λ v. row_seen x o v ≡ was) (one_row x st o n p m h k) e)

not_none : (was : List ℕ) (v : Option (List ℕ)) → v ≡ Some was → v ≡ None → ⊥
not_none was v e f = (let z : ◌≡◌ {A = Option (List ℕ)} (Some was) None = sym e ∙ f in cc)

row_there : (x : Span) (st : Statement) (o n : ℕ) (was : List ℕ) → IsOnRow x st o n → row_seen x o n ≡ Some was → (m : ℕ) → IsNoRow x st m → ⊥
row_there x st o n was on e m h = not_none was (row_seen x h.obj m) (seen_once x st o n h.obj m (Some was) on h.on e) h.none

-- a refusal that comes only where it holds bars none
pub never_bars : (y refusal : Refusal) → is_no_bar y ≡ true → bars y refusal ≡ true → ⊥
never_bars y refusal n b =
    let p = and_parts (ltb (rank y) (rank refusal) && not (is_no_bar y)) (not (is_again refusal && is_after_starts y)) b in
    true≢false (sym (and_parts (ltb (rank y) (rank refusal)) (not (is_no_bar y)) p.0).1 ∙ ap not n)

-- none of the causes applies that are tested later, where it bars the refusal
record LaterPass (sh : Shape) (x : Span) (st : Statement) (refusal : Refusal) : Type 0 where
  row : (n : ℕ) → bars (why.NoRow n) refusal ≡ true → IsNoRow x st n → ⊥
  busy : (u : ℕ) → bars (why.Busy u) refusal ≡ true → IsRowBusy x st u → ⊥
  entries : (ts : List ℕ) → bars (why.NoSlot ts) refusal ≡ true → IsEntryless x st ts → ⊥
  space : (need : ℕ) → bars (why.NoSpace need) refusal ≡ true → IsNoSpace sh x st need → ⊥
  extents : (count : ℕ) → bars (why.MaxExtents count) refusal ≡ true → IsMaxExtents sh x st count → ⊥
  undo : (hs : List (ℕ × ℕ)) → bars (why.UndoFull hs) refusal ≡ true → IsNoUndo sh x st hs → ⊥
  gone : (extent lowering : ℕ) → bars (why.ObjectGone extent lowering) refusal ≡ true → IsObjectGone sh x st 0 extent lowering → ⊥

passes : (sh : Shape) (x : Span) (st : Statement) (refusal : Refusal) → FirstPass sh x st → LaterPass sh x st refusal → (y : Refusal) → bars y refusal ≡ true → Cause sh x st 0 y → ⊥
passes sh x st refusal f k why.NoTable b h = f.table h
passes sh x st refusal f k why.TableExists b h = f.new_name h
passes sh x st refusal f k why.TooManyTables b h = f.few_tables h
passes sh x st refusal f k why.MovementOff b h = f.movement h
passes sh x st refusal f k why.TransactionOpen b h = f.no_transaction h
passes sh x st refusal f k (why.ShrinkBusy v) b h = f.unshrunk v h
passes sh x st refusal f k why.LogFull b h = f.log h
passes sh x st refusal f k (why.NotDataBlock v) b h = f.data_block v h
passes sh x st refusal f k (why.BadValue v) b h = f.value v h
passes sh x st refusal f k (why.Unbound l) b h = f.label l h
passes sh x st refusal f k (why.NoRow n) b h = k.row n b h
passes sh x st refusal f k (why.Busy u) b h = k.busy u b h
passes sh x st refusal f k (why.Again cs) b h = never_bars (why.Again cs) refusal refl b
passes sh x st refusal f k (why.NoSlot ts) b h = k.entries ts b h
passes sh x st refusal f k (why.NoSpace need) b h = k.space need b h
passes sh x st refusal f k (why.MaxExtents count) b h = k.extents count b h
passes sh x st refusal f k (why.UndoFull hs) b h = k.undo hs b h
passes sh x st refusal f k (why.ObjectGone extent lowering) b h = k.gone extent lowering b h
passes sh x st refusal f k (why.TooOld a) b h = never_bars (why.TooOld a) refusal refl b
passes sh x st refusal f k (why.TooOldEntry u) b h = never_bars (why.TooOldEntry u) refusal refl b
passes sh x st refusal f k (why.NeedsBlock len) b h = h

-- each refusal

pub no_row_is_refused : NoRowIsRefused
no_row_is_refused sh x st n p c = record {
  means = record { keeps = refl; cause = c; at_once = λ e. absurd (true≢false (sym e)); so_far = p.so_far };
  passes = passes sh x st (why.NoRow n) p.first (record {
    row = λ m b h. true≢false (sym b);
    busy = λ u b h. true≢false (sym b);
    entries = λ ts b h. true≢false (sym b);
    space = λ need b h. true≢false (sym b);
    extents = λ count b h. true≢false (sym b);
    undo = λ hs b h. true≢false (sym b);
    gone = λ e l b h. true≢false (sym b);
  });
}

pub busy_is_refused : BusyIsRefused
busy_is_refused sh x st u p c = record {
  means = record { keeps = refl; cause = c; at_once = λ e. absurd (true≢false (sym e)); so_far = p.so_far };
  passes = passes sh x st (why.Busy u) p.first (record {
    row = λ m b h. row_there x st c.obj c.row c.was c.on c.there m h;
    busy = λ v b h. true≢false (sym b);
    entries = λ ts b h. true≢false (sym b);
    space = λ need b h. true≢false (sym b);
    extents = λ count b h. true≢false (sym b);
    undo = λ hs b h. true≢false (sym b);
    gone = λ e l b h. true≢false (sym b);
  });
}

pub again_is_refused : AgainIsRefused
again_is_refused sh x st cs p c = record {
  means = record { keeps = refl; cause = c; at_once = λ e. absurd (true≢false (sym e)); so_far = p.so_far };
  passes = passes sh x st (why.Again cs) p.first (record {
    row = λ m b h. true≢false (sym b);
    busy = λ v b h. true≢false (sym b);
    entries = λ ts b h. true≢false (sym b);
    space = λ need b h. true≢false (sym b);
    extents = λ count b h. true≢false (sym b);
    undo = λ hs b h. true≢false (sym b);
    gone = λ e l b h. true≢false (sym b);
  });
}

pub no_slot_is_refused : NoSlotIsRefused
no_slot_is_refused sh x st ts p r c = record {
  means = record { keeps = refl; cause = c; at_once = λ e. absurd (true≢false (sym e)); so_far = p.so_far };
  passes = passes sh x st (why.NoSlot ts) p.first (record {
    row = λ m b h. r.there m h;
    busy = λ v b h. r.free v h;
    entries = λ us b h. true≢false (sym b);
    space = λ need b h. true≢false (sym b);
    extents = λ count b h. true≢false (sym b);
    undo = λ hs b h. true≢false (sym b);
    gone = λ e l b h. true≢false (sym b);
  });
}

-- what is sought for is one thing

one_sought : (sh : Shape) (x : Span) (st : Statement) (q p : Sought) → AreAllowed sh x.ended → Seeks x st q → Seeks x st p → q ≡ p
one_sought sh x (asked.Insert name label text) q p a h k =
    let o : h.obj ≡ k.obj = same_some h.obj k.obj (sym h.table ∙ k.table) in
    h.sought ∙ (ap (λ o. sought_for (own_then x) o (length text) []) o ∙ sym k.sought)
one_sought sh x (asked.Update name target text) q p a h k =
    let st = asked.Update name target text in
    let row : h.row ≡ k.row = one_row x st h.obj h.row k.obj k.row h.on k.on in
    let stand : h.stand ≡ k.stand = rows_stand_once sh x.ended k.row h.stand k.stand a (subst (λ n. StandsAt x.ended n h.stand) row h.stands) k.stands in
    h.sought ∙ (ap₂ (λ (o : ℕ) (s : Stand). sought_for (own_then x) o (length text) (own_blocks s)) (one_obj x st h.obj h.row k.obj k.row h.on k.on) stand ∙ sym k.sought)
one_sought sh x st q p a h k = absurd h

one_sought_obj : (x : Span) (st : Statement) (q p : Sought) → Seeks x st q → Seeks x st p → q.obj ≡ p.obj
one_sought_obj x (asked.Insert name label text) q p h k = ap (λ (z : Sought). z.obj) h.sought ∙ (same_some h.obj k.obj (sym h.table ∙ k.table) ∙ sym (ap (λ (z : Sought). z.obj) k.sought))
one_sought_obj x (asked.Update name target text) q p h k = ap (λ (z : Sought). z.obj) h.sought ∙ (one_obj x (asked.Update name target text) h.obj h.row k.obj k.row h.on k.on ∙ sym (ap (λ (z : Sought). z.obj) k.sought))
one_sought_obj x st q p h k = absurd h

-- a table seeks no block

room_space : (sh : Shape) (x : Span) (st : Statement) (need : ℕ) → IsNoRoom sh x st need → IsNoSpace sh x st need
room_space sh x (asked.Table name pctfree) need h = absurd h.none.seeks
room_space sh x st need h = h

space_room : (sh : Shape) (x : Span) (st : Statement) (need : ℕ) (q : Sought) → Seeks x st q → IsNoSpace sh x st need → IsNoRoom sh x st need
space_room sh x (asked.Table name pctfree) need q s h = absurd s
space_room sh x st need q s h = h

space_needed : (sh : Shape) (x : Span) (st : Statement) (need n : ℕ) → Needs sh x st n → IsNoSpace sh x st need → IsNoRoom sh x st need
space_needed sh x (asked.Table name pctfree) need n s h = absurd s
space_needed sh x st need n s h = h

pub no_space_is_refused : NoSpaceIsRefused
no_space_is_refused sh x st need p e c = record {
  means = record { keeps = refl; cause = room_space sh x st need c; at_once = λ e. absurd (true≢false (sym e)); so_far = p.so_far };
  passes = passes sh x st (why.NoSpace need) p.first (record {
    row = λ m b h. e.row.there m h;
    busy = λ v b h. e.row.free v h;
    entries = λ us b h. e.entries us h;
    space = λ n b h. true≢false (sym b);
    extents = λ count b h. true≢false (sym b);
    undo = λ hs b h. true≢false (sym b);
    gone = λ i l b h. true≢false (sym b);
  });
}

pub no_extent_is_refused : NoExtentIsRefused
no_extent_is_refused sh x name pctfree p e = record {
  means = record { keeps = refl; cause = (refl, e); at_once = λ e. absurd (true≢false (sym e)); so_far = p.so_far };
  passes = passes sh x (asked.Table name pctfree) (why.NoSpace 0) p.first (record {
    row = λ m b h. table_target h.obj m h.on;
    busy = λ v b h. table_target h.obj h.row h.on;
    entries = λ us b h. table_target h.obj h.row h.on;
    space = λ n b h. true≢false (sym b);
    extents = λ count b h. true≢false (sym b);
    undo = λ hs b h. true≢false (sym b);
    gone = λ i l b h. true≢false (sym b);
  });
}
  where
    table_target : (o n : ℕ) → IsOnRow x (asked.Table name pctfree) o n → ⊥
    table_target o n h = (let z : ◌≡◌ {A = Option Target} None (Some h.target) = h.targeted in cc)

pub max_extents_is_refused : MaxExtentsIsRefused
max_extents_is_refused sh x st count p e c = record {
  means = record { keeps = refl; cause = c; at_once = λ e. absurd (true≢false (sym e)); so_far = p.so_far };
  passes = passes sh x st (why.MaxExtents count) p.first (record {
    row = λ m b h. e.row.there m h;
    busy = λ v b h. e.row.free v h;
    entries = λ us b h. e.entries us h;
    space = λ n b h. full (space_room sh x st n c.sought c.none.seeks h);
    extents = λ n b h. true≢false (sym b);
    undo = λ hs b h. true≢false (sym b);
    gone = λ i l b h. true≢false (sym b);
  });
}
  where
    full : {n : ℕ} → IsNoRoom sh x st n → ⊥
    full r =
        let few : length (extents_of x.ended c.sought.obj) < MOST_EXTENTS = subst (λ o. length (extents_of x.ended o) < MOST_EXTENTS) (one_sought_obj x st r.sought c.sought r.none.seeks c.none.seeks) r.few in
        let most : length (extents_of x.ended c.sought.obj) ≡ MOST_EXTENTS = c.most in
        omega (arith, few, most)

pub undo_full_is_refused : UndoFullIsRefused
undo_full_is_refused sh x st hs p e c = record {
  means = record { keeps = refl; cause = c; at_once = λ e. absurd (true≢false (sym e)); so_far = p.so_far };
  passes = passes sh x st (why.UndoFull hs) p.first (record {
    row = λ m b h. e.entry.row.there m h;
    busy = λ v b h. e.entry.row.free v h;
    entries = λ us b h. e.entry.entries us h;
    space = λ n b h. let r = space_needed sh x st n c.need c.needs h in e.block r.sought r.none;
    extents = λ n b h. e.block h.sought h.none;
    undo = λ us b h. true≢false (sym b);
    gone = λ i l b h. true≢false (sym b);
  });
}

-- what a row that may be changed passes

no_target : (x : Span) (name label text : List ℕ) (o n : ℕ) → IsOnRow x (asked.Insert name label text) o n → ⊥
no_target x name label text o n h = (let z : ◌≡◌ {A = Option Target} None (Some h.target) = h.targeted in cc)

pub inserts_pass : InsertsPass
inserts_pass x name label text = record {
  row = record { there = λ n h. no_target x name label text h.obj n h.on; free = λ u h. no_target x name label text h.obj h.row h.on };
  entries = λ ts h. no_target x name label text h.obj h.row h.on;
}

by_free : (R : List Record) (t u : ℕ) (w : Writer) → w ≡ By u → IsFreeFor R t w → is_active R u ≡ true → u ≡ t
by_free R t u (By v) e f on = let same : v ≡ u = cc in subst (λ z. z ≡ t) same (f (subst (λ z. is_active R z ≡ true) (sym same) on))
by_free R t u (At c) e f on = absurd cc

free_not_busy : (R : List Record) (own : Option ℕ) (n u : ℕ) → MatchOption (newest_on (standing R) n) (Unit {0}) (λ st. IsFreeFor R (number_or_zero own) st.by) → IsBusy R own n u → ⊥
free_not_busy R own n u f h = h.other (by_free R (number_or_zero own) u h.step.by h.by_is (subst (λ (o : Option Step). MatchOption o (Unit {0}) (λ st. IsFreeFor R (number_or_zero own) st.by)) h.newest f) h.active)

pub writes_pass : WritesPass
writes_pass sh x st o n s a on w = record {
  there = λ m h. row_there x st o n w.was on (ap (λ t. view x.ended o (commit_count x.ended) t n) (zero_is (own_then x)) ∙ w.there) m h;
  free = λ u h. free_not_busy x.ended (own_then x) n u w.free (subst (λ m. IsBusy x.ended (own_then x) m u) (sym (one_row x st o n h.obj h.row on h.on)) h.busy);
}

pub entries_pass : EntriesPass
entries_pass sh x st o n s a on w e = record {
  row = writes_pass sh x st o n s a on w;
  entries = λ ts h. lacks ts h;
}
  where
    lacks : (ts : List ℕ) → IsEntryless x st ts → ⊥
    lacks ts h =
        let same : h.stand ≡ s = rows_stand_once sh x.ended n h.stand s a (subst (λ m. StandsAt x.ended m h.stand) (sym (one_row x st o n h.obj h.row on h.on)) h.stands) w.stands in
        let some : first_lacking x.ended (own_then x) (must_change x st s) ≡ Some h.block = subst (λ z. first_lacking x.ended (own_then x) (must_change x st z) ≡ Some h.block) same h.first in
        (let z : ◌≡◌ {A = Option ℕ} None (Some h.block) = sym e ∙ some in cc)

pub found_pass : FoundPass
found_pass sh x st q hint b shape a table seeks f p none =
    let t = found_takes sh x.ended q hint b shape a table f in
    let same : p ≡ q = one_sought sh x st p q a none.seeks seeks in
    let off : is_usable sh x.ended q b ≡ false = subst (λ z. is_usable sh x.ended z b ≡ false) same (none.none_takes b (subst (λ (z : Sought). IsRowBlock sh x.ended z.obj b) (sym same) t.here)) in
    let on : is_usable sh x.ended q b ≡ true = ap₂ (λ u v. u && v) (ap₂ (λ u v. u && v) t.here.formatted (ap not t.another)) t.takes in
    true≢false (sym on ∙ off)
