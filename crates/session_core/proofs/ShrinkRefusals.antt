-- A shrink that doesn't go on: undo is full for the row that is to be moved.
use Rattle.std.proofs.Common.{◌≡◌, ℕ, ◌+◌, ◌*◌, Bool, true, false, List, length, Option, Some, refl, sym, ◌∙◌, ap, ap₂, subst, arith, inl, inr, true≢false}
use Rattle.std.specs.Prelude.{Result, Err}
use Rattle.seg_words.specs.Types.{Shape, Kind, Empty, Row, Head, Body, Rowid, Slot, UNDO_PART_SIZE, is_empty}
use Rattle.disk_model.specs.Crash.{Meaning}
use Rattle.redo_model.specs.Records.{Record}
use Rattle.redo_model.specs.Model.{image, at_place, AreAllowed, IsLawful, IsTable}
use Rattle.redo_laws.proofs.homes.PairsLaw.{heads_name_bodies}
use Rattle.shrink_laws.specs.declared.skip.Skip.{Skip}
use Rattle.shrink_laws.specs.Stops.{holder, linked, row_image}
use Rattle.change_laws.specs.Types.{Fill, Stand, Whole, Apart, Full, IsFull, fills_size, free_place, spot_for}
use Rattle.change_laws.proofs.RowRoom.{target_bare}
use Rattle.script_text.specs.declared.statement.Statement.{Statement}
use Rattle.script_text.specs.declared.statement.Statement.TheVariants as asked
use Rattle.history_text.specs.declared.refusal.Refusal.TheVariants as why
use Rattle.history_model.specs.Spans.{Span}
use Rattle.history_model.specs.Causes.{HasMoveParts}
use Rattle.history_laws.specs.Refusals.{IsRefusedSo}
use Rattle.history_laws.proofs.Owned.{none_some, same_some}
use Rattle.history_laws.proofs.Shrinking.{shrinks_are_spent}
use Rattle.store_core.specs.Store.{Held}
use Rattle.store_core.specs.Adding.{HasTried}
use Rattle.store_core.specs.declared.fault.StoreFault.{StoreFault}
use Rattle.scan_table.specs.declared.scan.OpenScan.{OpenScan}
use Rattle.shrink_move.specs.declared.fault.ShrinkFault.{ShrinkFault}
use Rattle.shrink_move.specs.declared.fault.ShrinkFault.TheVariants as faults
use Rattle.shrink_move.specs.declared.next.Next.{Next}
use Rattle.shrink_move.specs.declared.next.Next.TheVariants.{Bottom, Skips, NoFit, ToBody, ToBlock}
use Rattle.shrink_move.specs.declared.shrink.Shrink.{Shrink}
use Rattle.shrink_move.specs.Moves.{MovedAt, row_stand, to_block_fills}
use Rattle.shrink_move.specs.MoveLaws.{block_fills, body_fills}
use Rattle.shrink_move.specs.Nexts.{NextIs, GoesToBlock, GoesToBody}
use Rattle.shrink_move.specs.Starts.{store_part}
use Rattle.shrink_move.specs.Stepping.{StepIs, step_fills}
use Rattle.shrink_move.proofs.MoveLaw.{rows_move_to_blocks, rows_move_to_bodies}
use Rattle.session_core.specs.declared.session.ShrinkWork.{ShrinkWork}
use Rattle.session_core.specs.declared.turned.Acted.{Acted}
use Rattle.session_core.specs.Acting.{IsAt, HasActed}
use Rattle.session_core.specs.Marks.{HasActedMarking}
use Rattle.session_core.specs.ShrinkWorks.{shrink_of}
use Rattle.session_core.specs.ShrinkEvents.{IsShrinking, not_shrunk}
use Rattle.session_core.proofs.BareHeads.{head_bare}
use Rattle.session_core.proofs.Calls.{acts_none}
use Rattle.session_core.proofs.Marking.{unmarked}
use Rattle.session_core.proofs.Sparing.{marking_as}
use Rattle.session_core.proofs.MakingTables.{refusal_turns}
use Rattle.session_core.proofs.ShrinkSteps.{table_on}

-- ---- how many bytes of undo a move needs

-- its parts, and the row's bytes once
record IsSized (sh : Shape) (R : List Record) (o place d k : ℕ) (fs : List Fill) : Type 0 where
  parts : ℕ
  are : HasMoveParts sh R o place d k parts
  size : fills_size R fs ≡ parts * UNDO_PART_SIZE + length (row_image R d k).bytes

held_as : (R : List Record) (d k : ℕ) (kind : Kind) → (image R d k).kind ≡ kind → row_image R d k ≡ holder R kind (image R d k)
held_as R d k kind e = ap (λ (x : Kind). holder R x (image R d k)) e

held_by_body : (R : List Record) (d k : ℕ) (p : Rowid) → (image R d k).kind ≡ Head → (image R d k).link ≡ Some p → row_image R d k ≡ image R p.dba p.slot
held_by_body R d k p kind link = held_as R d k Head kind ∙ ap (λ (l : Option Rowid). linked R l (image R d k)) link

bytes_as : (i j : Slot) → i ≡ j → length i.bytes ≡ length j.bytes
bytes_as i j e = ap (λ (x : Slot). length x.bytes) e

-- by where the row stands
stand_size : (R : List Record) (d k target : ℕ) (x : Stand) → row_stand (image R d k).kind (image R d k).link (at_place d k) ≡ x → fills_size R (block_fills R d k target) ≡ fills_size R (to_block_fills (image R d k).row x (free_place R target) (row_image R d k).bytes)
stand_size R d k target x e = ap (λ (y : Stand). fills_size R (to_block_fills (image R d k).row y (free_place R target) (row_image R d k).bytes)) e

row_sized : (sh : Shape) (R : List Record) (o place d k target : ℕ) → AreAllowed sh R → (image R d k).kind ≡ Row → IsSized sh R o place d k (block_fills R d k target)
row_sized sh R o place d k target h kind =
    let same = bytes_as (row_image R d k) (image R d k) (held_as R d k Row kind) in
    let bare = target_bare sh R target h in
    let size = stand_size R d k target (Whole (at_place d k)) (ap (λ (x : Kind). row_stand x (image R d k).link (at_place d k)) kind) in
    record {
      parts = 2;
      are = inl (refl, inl kind);
      size = size ∙ (let z : (UNDO_PART_SIZE + length (image R d k).bytes) + ((UNDO_PART_SIZE + length (image R target (free_place R target).slot).bytes) + 0) ≡ 2 * UNDO_PART_SIZE + length (row_image R d k).bytes = omega (arith, same, bare) in z);
    }

body_sized : (sh : Shape) (R : List Record) (o : ℕ) (skips : List Skip) (cursor place d k target : ℕ) → AreAllowed sh R → GoesToBlock sh R o skips cursor place d k target → (image R d k).kind ≡ Body → IsSized sh R o place d k (block_fills R d k target)
body_sized sh R o skips cursor place d k target h g kind =
    let n = (heads_name_bodies sh R d k h).body kind in
    let same = bytes_as (row_image R d k) (image R d k) (held_as R d k Body kind) in
    let bare = target_bare sh R target h in
    let head = head_bare sh R n.block n.slot h n.kind in
    let size = stand_size R d k target (Apart (at_place n.block n.slot) (at_place d k)) (ap₂ (λ (x : Kind) (y : Option Rowid). row_stand x y (at_place d k)) kind n.link) in
    record {
      parts = 3;
      are = inr (refl, λ e. body_row (sym kind ∙ e), g.not_down);
      size = size ∙ (let z : (UNDO_PART_SIZE + length (image R n.block n.slot).bytes) + ((UNDO_PART_SIZE + length (image R d k).bytes) + ((UNDO_PART_SIZE + length (image R target (free_place R target).slot).bytes) + 0)) ≡ 3 * UNDO_PART_SIZE + length (row_image R d k).bytes = omega (arith, same, bare, head) in z);
    }
  where
    body_row : Body ≡ Row → ⊥
    body_row e = absurd cc

head_sized : (sh : Shape) (R : List Record) (o : ℕ) (skips : List Skip) (cursor place d k target : ℕ) → AreAllowed sh R → GoesToBlock sh R o skips cursor place d k target → (image R d k).kind ≡ Head → IsSized sh R o place d k (block_fills R d k target)
head_sized sh R o skips cursor place d k target h g kind =
    let n = (heads_name_bodies sh R d k h).head kind in
    let same = bytes_as (row_image R d k) (image R n.block n.slot) (held_by_body R d k (at_place n.block n.slot) kind n.link) in
    let bare = target_bare sh R target h in
    let head = head_bare sh R d k h kind in
    let size = stand_size R d k target (Apart (at_place d k) (at_place n.block n.slot)) (ap₂ (λ (x : Kind) (y : Option Rowid). row_stand x y (at_place d k)) kind n.link) in
    record {
      parts = 3;
      are = inr (refl, λ e. head_row (sym kind ∙ e), g.not_down);
      size = size ∙ (let z : (UNDO_PART_SIZE + length (image R d k).bytes) + ((UNDO_PART_SIZE + length (image R n.block n.slot).bytes) + ((UNDO_PART_SIZE + length (image R target (free_place R target).slot).bytes) + 0)) ≡ 3 * UNDO_PART_SIZE + length (row_image R d k).bytes = omega (arith, same, bare, head) in z);
    }
  where
    head_row : Head ≡ Row → ⊥
    head_row e = absurd cc

block_sized : (sh : Shape) (R : List Record) (o : ℕ) (skips : List Skip) (cursor place d k target : ℕ) → AreAllowed sh R → GoesToBlock sh R o skips cursor place d k target → (kind : Kind) → (image R d k).kind ≡ kind → IsSized sh R o place d k (block_fills R d k target)
block_sized sh R o skips cursor place d k target h g Empty e = absurd (true≢false (sym (ap is_empty e) ∙ g.finds.full))
block_sized sh R o skips cursor place d k target h g Row e = row_sized sh R o place d k target h e
block_sized sh R o skips cursor place d k target h g Head e = head_sized sh R o skips cursor place d k target h g e
block_sized sh R o skips cursor place d k target h g Body e = body_sized sh R o skips cursor place d k target h g e

to_body_sized : (sh : Shape) (R : List Record) (o : ℕ) (skips : List Skip) (cursor place d k : ℕ) (body : Rowid) → AreAllowed sh R → GoesToBody sh R o skips cursor place d k body → IsSized sh R o place d k (body_fills R d k body)
to_body_sized sh R o skips cursor place d k body h g =
    let same = bytes_as (row_image R d k) (image R body.dba body.slot) (held_by_body R d k body g.head g.link) in
    let head = head_bare sh R d k h g.head in
    record {
      parts = 2;
      are = inl (refl, inr (record { head = g.head; block = body.dba; slot = body.slot; link = g.link; lower = g.below.lower; there = g.below.there; below = g.below.below }));
      size = (let z : (UNDO_PART_SIZE + length (image R d k).bytes) + ((UNDO_PART_SIZE + length (image R body.dba body.slot).bytes) + 0) ≡ 2 * UNDO_PART_SIZE + length (row_image R d k).bytes = omega (arith, same, head) in z);
    }

-- ---- undo is full

full_by : (sh : Shape) (R : List Record) (o n : ℕ) (fs : List Fill) (hs : List (ℕ × ℕ)) → spot_for sh R (fills_size R fs) ≡ Full hs → MovedAt sh R o n fs (spot_for sh R (fills_size R fs)) → IsFull sh R (fills_size R fs) hs
full_by sh R o n fs hs e m = subst (MovedAt sh R o n fs) e m

full_as : (sh : Shape) (R : List Record) (o place d k : ℕ) (fs : List Fill) (hs : List (ℕ × ℕ)) → (z : IsSized sh R o place d k fs) → IsFull sh R (fills_size R fs) hs → IsFull sh R (z.parts * UNDO_PART_SIZE + length (row_image R d k).bytes) hs
full_as sh R o place d k fs hs z h = subst (λ (n : ℕ). IsFull sh R n hs) z.size h

spot_as : (sh : Shape) (R : List Record) (fs gs : List Fill) (hs : List (ℕ × ℕ)) → ◌≡◌ {A = Option (List Fill)} (Some fs) (Some gs) → spot_for sh R (fills_size R gs) ≡ Full hs → spot_for sh R (fills_size R fs) ≡ Full hs
spot_as sh R fs gs hs e h = subst (λ (z : List Fill). spot_for sh R (fills_size R z) ≡ Full hs) (sym (same_some fs gs e)) h

spent_by : (sh : Shape) (x : Span) (name : List ℕ) (compact : Bool) (w : ShrinkWork) (n : Next) (fs : List Fill) (hs : List (ℕ × ℕ)) → IsLawful sh x.ended → IsTable x.ended w.shrink.obj → IsShrinking sh x name compact w → NextIs sh x.ended w.shrink.obj w.shrink.skips w.shrink.cursor n → step_fills x.ended n ≡ Some fs
    → spot_for sh x.ended (fills_size x.ended fs) ≡ Full hs → IsRefusedSo sh x (asked.Shrink name compact) (why.UndoFull hs)
spent_by sh x name compact w Bottom fs hs l t r h e s = none_some fs _ e
spent_by sh x name compact w (Skips c u) fs hs l t r h e s = none_some fs _ e
spent_by sh x name compact w (NoFit c) fs hs l t r h e s = none_some fs _ e
spent_by sh x name compact w (ToBody c body) fs hs l t r h e s =
    let R = x.ended in
    let o = w.shrink.obj in
    let gs = body_fills R c.at.dba c.at.slot body in
    let z = to_body_sized sh R o w.shrink.skips w.shrink.cursor c.place c.at.dba c.at.slot body l.allowed h in
    let full = full_by sh R o (image R c.at.dba c.at.slot).row gs hs (spot_as sh R gs fs hs e s) (rows_move_to_bodies sh R o w.shrink.skips w.shrink.cursor c.place c.at.dba c.at.slot body l t r.stands.movement h) in
    shrinks_are_spent sh x name compact (shrink_of w) c.place c.at.dba c.at.slot hs r.passed (record {
      finds = h.finds;
      over = h.over;
      goes = inl (record { head = h.head; block = body.dba; slot = body.slot; link = h.link; lower = h.below.lower; there = h.below.there; below = h.below.below });
      parts = z.parts;
      parts_are = z.are;
      full = full_as sh R o c.place c.at.dba c.at.slot gs hs z full;
    }) r.stands
spent_by sh x name compact w (ToBlock c target) fs hs l t r h e s =
    let R = x.ended in
    let o = w.shrink.obj in
    let gs = block_fills R c.at.dba c.at.slot target in
    let z = block_sized sh R o w.shrink.skips w.shrink.cursor c.place c.at.dba c.at.slot target l.allowed h (image R c.at.dba c.at.slot).kind refl in
    let full = full_by sh R o (image R c.at.dba c.at.slot).row gs hs (spot_as sh R gs fs hs e s) (rows_move_to_blocks sh R o w.shrink.skips w.shrink.cursor c.place c.at.dba c.at.slot target l t r.stands.movement h) in
    shrinks_are_spent sh x name compact (shrink_of w) c.place c.at.dba c.at.slot hs r.passed (record {
      finds = h.finds;
      over = h.over;
      goes = inr (target, h.first);
      parts = z.parts;
      parts_are = z.are;
      full = full_as sh R o c.place c.at.dba c.at.slot gs hs z full;
    }) r.stands

-- ---- the event

abbrev fault_acted : {D : Type 0} (meaning : Meaning D) (x : Span) (name : List ℕ) (compact : Bool) (own : Option ℕ) (w : ShrinkWork) (s : Shrink) (f : ShrinkFault) (a b : Held D) → IsAt meaning x own a → IsShrinking a.shape x name compact w → StepIs meaning a.shape x.ended a b w.shrink s (Err f)
    → HasTried {T = Unit {0}} meaning a b (store_part {T = Unit {0}} (Err f)) → HasActed meaning x (Some (asked.Shrink name compact)) a b (not_shrunk f own)
fault_acted meaning x name compact own w s faults.MovementOff a b at r h t = absurd h
fault_acted meaning x name compact own w s (faults.ShrinkBusy v) a b at r h t = absurd h
fault_acted meaning x name compact own w s (faults.UndoFull hs) a b at r h t = record {
  records = x.ended;
  stands = h.spent.stands.list;
  acts = acts_none a.shape x (Some (asked.Shrink name compact));
  stable = t.stable x.ended at.stands.list;
  survives = h.spent.stands.survives;
  time = t.loan.time x.ended at.stands.list;
  turns = refusal_turns a.shape x (asked.Shrink name compact) (why.UndoFull hs) own (spent_by a.shape x name compact w h.next h.fills hs at.stands.lawful (table_on meaning x name compact own w a at r) r h.next_is h.fills_are h.spent.full) r.whole at.own_is;
  sound = tt;
}
fault_acted meaning x name compact own w s (faults.Store f) a b at r h t = record {
  records = x.ended;
  stands = h.failed.stands.list;
  acts = acts_none a.shape x (Some (asked.Shrink name compact));
  stable = t.stable x.ended at.stands.list;
  survives = h.failed.stands.survives;
  time = t.loan.time x.ended at.stands.list;
  turns = tt;
  sound = h.failed.sound at.unspent;
}

fault_marks : {D : Type 0} (meaning : Meaning D) (x : Span) (name : List ℕ) (compact : Bool) (own : Option ℕ) (w : ShrinkWork) (s : Shrink) (f : ShrinkFault) (a b : Held D) (scans : List (Option OpenScan)) → IsAt meaning x own a → IsShrinking a.shape x name compact w → StepIs meaning a.shape x.ended a b w.shrink s (Err f)
    → HasTried {T = Unit {0}} meaning a b (store_part {T = Unit {0}} (Err f)) → HasActedMarking meaning x (Some (asked.Shrink name compact)) scans scans a b (not_shrunk f own)
fault_marks meaning x name compact own w s faults.MovementOff a b scans at r h t = absurd h
fault_marks meaning x name compact own w s (faults.ShrinkBusy v) a b scans at r h t = absurd h
fault_marks meaning x name compact own w s (faults.UndoFull hs) a b scans at r h t = record { acted = fault_acted meaning x name compact own w s (faults.UndoFull hs) a b at r h t; marks = unmarked x.ended scans }
fault_marks meaning x name compact own w s (faults.Store f) a b scans at r h t = record { acted = fault_acted meaning x name compact own w s (faults.Store f) a b at r h t; marks = unmarked x.ended scans }

pub unstepped_acted : {D : Type 0} (meaning : Meaning D) (x : Span) (name : List ℕ) (compact : Bool) (own : Option ℕ) (w : ShrinkWork) (s : Shrink) (f : ShrinkFault) (a b : Held D) (q : Result Acted StoreFault) (scans : List (Option OpenScan)) → q ≡ not_shrunk f own → IsAt meaning x own a → IsShrinking a.shape x name compact w
    → StepIs meaning a.shape x.ended a b w.shrink s (Err f) → HasTried {T = Unit {0}} meaning a b (store_part {T = Unit {0}} (Err f)) → HasActedMarking meaning x (Some (asked.Shrink name compact)) scans scans a b q
unstepped_acted meaning x name compact own w s f a b q scans e at r h t = marking_as meaning x (Some (asked.Shrink name compact)) scans a b q (not_shrunk f own) e (fault_marks meaning x name compact own w s f a b scans at r h t)
