-- Each kind of row record and Move has the shape of a step.
use Rattle.std.proofs.Common.{◌≡◌, ℕ, Bool, true, false, not, ◌&&◌, eqb, List, [], ◌∷◌, length, take, Option, Some, None, find, refl, sym, ◌∙◌, ap, ap₂, subst, inl, inr, eqb-true, true≢false, eq-eqb, MatchOption}
use Rattle.seg_words.proofs.Lemmas.{cond-true, cond-false, cases_Bool, and_parts, and_from, or_left, or_right}
use Rattle.seg_words.specs.Types.{Shape, Kind, Row, Head, Body, Slot, Writer, By, At, is_empty, writer_has_ended, Shrink}
use Rattle.redo_model.specs.Records.{Record, RowPart, RowBody, MoveRecord, Insert, Update, Migrate, Return, Delete, Move}
use Rattle.redo_model.specs.Model.{Step, row_step, move_step, is_active, ended_in, standing, newest_on, holds_row, is_place, image, IsKindAllowed, takes_row, data_blocks, is_formatted, position, pctfree_of, IsTable, Content, nothing, plain_row, head_to, body_of, with_bytes, at_place, txn_part, next_slot, MayChangeRow, IsFreeFor, InsertAllowed, UpdateAllowed, MigratePlain, MigrateAgain, MigrateAllowed, ReturnAllowed, DeletePlain, DeleteMigrated, DeleteAllowed, move_part, first_taker, MovePlain, MoveToBody, MoveMigrated, MoveAllowed}
use Rattle.redo_laws.proofs.steps.Facts.{MayOver}
use Rattle.redo_model.specs.AllowedRows.{migrates_plain, migrates_again, deletes_plain, deletes_migrated}
use Rattle.redo_model.specs.AllowedMoves.{moves_plain, moves_to_body, moves_migrated}
use Rattle.redo_laws.specs.Among.{is_in}
use Rattle.redo_laws.proofs.space.Places.{in_take, Segments, a_table}
use Rattle.redo_laws.proofs.allowed.Shapes.{Present, row_block, Replaces, Puts, IsHolder, Source, StandsIn, OldRow, StepShape, holder_bytes, target_reusable, empty_of, row_of_empty}

abbrev pub of_row : RowBody → Bool → List RowPart → Step
of_row w d ps = record { by = By w.txn; obj = w.obj; row = w.row; undo = w.undo; previous = w.previous; parts = ps; deletes = d }

abbrev pub of_move : MoveRecord → List RowPart → Step
of_move m ps = record { by = At m.number; obj = m.obj; row = m.row; undo = m.undo; previous = None; parts = ps; deletes = false }

-- parts

not_at : (P : Type 0) (t m : ℕ) → By t ≡ At m → P
not_at P t m e = absurd cc

txn_puts : (R : List Record) (w : RowBody) (d : Bool) (ps : List RowPart) (i entry b k : ℕ) (c : Content) → (is_empty c.kind ≡ false → c.row ≡ w.row) → (is_empty c.kind ≡ true → c.bytes ≡ []) → Puts R (of_row w d ps) i (txn_part R w i entry b k c)
txn_puts R w d ps i entry b k c row none = record { undo = refl; writer = refl; row = row; room = λ u e. refl; room_at = λ m e. not_at _ w.txn m e; none = none }

not_by : (P : Type 0) (m u : ℕ) → At m ≡ By u → P
not_by P m u e = absurd cc

move_puts : (R : List Record) (m : MoveRecord) (ps : List RowPart) (i b k : ℕ) (c : Content) → (is_empty c.kind ≡ false → c.row ≡ m.row) → (is_empty c.kind ≡ true → c.bytes ≡ []) → Puts R (of_move m ps) i (move_part R m i b k c)
move_puts R m ps i b k c row none = record { undo = refl; writer = refl; row = row; room = λ u e. not_by _ m.number u e; room_at = λ n e. refl; none = none }

never : (P : Type 0) → true ≡ false → P
never P e = absurd (true≢false e)

never' : (P : Type 0) → false ≡ true → P
never' P e = absurd (true≢false (sym e))

self_place : (b k : ℕ) → is_place b k b k ≡ true
self_place b k = and_from _ _ (eq-eqb b b refl) (eq-eqb k k refl)

-- two slots whose images differ in a test are two
pub apart_by : (R : List Record) (f : Slot → Bool) (b k c l : ℕ) → f (image R b k) ≡ true → f (image R c l) ≡ false → is_place b k c l ≡ false
apart_by R f b k c l p q =
    elim (cases_Bool (is_place b k c l)) [
      | inr n ↦ n
      | inl y ↦ let w = and_parts (eqb b c) (eqb k l) y in absurd (true≢false (sym p ∙ ap f (ap₂ (image R) (eqb-true b c w.0) (eqb-true k l w.1)) ∙ q))
    ]

abbrev not_empty : Slot → Bool
not_empty i = not (is_empty i.kind)

-- the target's part
target_replaces : (sh : Shape) (R : List Record) (st : Step) (b : ℕ) (p : RowPart) → p.old ≡ image R b (next_slot R b) → p.dba ≡ b → Present sh R st.obj b → Replaces sh R st p
target_replaces sh R st b p e f h =
    let r = and_parts (is_empty (image R b (next_slot R b)).kind) (writer_has_ended (ended_in R) (image R b (next_slot R b)).writer) (target_reusable R b) in
    inr (ap (λ (i : Slot). is_empty i.kind) e ∙ r.0, ap (λ (i : Slot). writer_has_ended (ended_in R) i.writer) e ∙ r.1, subst (Present sh R st.obj) (sym f) h)

txn_target : (sh : Shape) (R : List Record) (w : RowBody) (i entry b : ℕ) (c : Content) → Present sh R w.obj b → Replaces sh R (of_row w false []) (txn_part R w i entry b (next_slot R b) c)
txn_target sh R w i entry b c h = target_replaces sh R (of_row w false []) b (txn_part R w i entry b (next_slot R b) c) refl refl h

move_target : (sh : Shape) (R : List Record) (m : MoveRecord) (i b : ℕ) (c : Content) → Present sh R m.obj b → Replaces sh R (of_move m []) (move_part R m i b (next_slot R b) c)
move_target sh R m i b c h = target_replaces sh R (of_move m []) b (move_part R m i b (next_slot R b) c) refl refl h

pub target_apart : (R : List Record) (b k t : ℕ) → is_empty (image R b k).kind ≡ false → is_place b k t (next_slot R t) ≡ false
target_apart R b k t e = apart_by R not_empty b k t (next_slot R t) (ap not e) (ap not (and_parts (is_empty (image R t (next_slot R t)).kind) (writer_has_ended (ended_in R) (image R t (next_slot R t)).writer) (target_reusable R t)).0)

row_kind : (k : Kind) → k ≡ Row → is_empty k ≡ false
row_kind k e = ap is_empty e

head_kind : (k : Kind) → k ≡ Head → is_empty k ≡ false
head_kind k e = ap is_empty e

body_kind : (k : Kind) → k ≡ Body → is_empty k ≡ false
body_kind k e = ap is_empty e

-- a step on a row that was there
pub record OldShape (sh : Shape) (R : List Record) (st : Step) : Type 0 where
  pub shape : StepShape sh R st
  pub old : OldRow sh R st

pair_old : (sh : Shape) (R : List Record) (st : Step) → (OldRow sh R st → StepShape sh R st) → OldRow sh R st → OldShape sh R st
pair_old sh R st mk o = record { shape = mk o; old = o }

-- rows of transactions

free_over : (R : List Record) (t : ℕ) (w : Writer) → IsFreeFor R t w → MayOver (is_active R) (By t) w
free_over R t (By u) f = λ on. ap By (sym (f on))
free_over R t (At c) f = tt

free_last : (R : List Record) (t : ℕ) (o : Option Step) (last : Step) → MatchOption o (Unit {0}) (λ st. IsFreeFor R t st.by) → o ≡ Some last → MayOver (is_active R) (By t) last.by
free_last R t None last f e = absurd (let x : ◌≡◌ {A = Option Step} None (Some last) = e in cc)
free_last R t (Some st) last f e = let same : st ≡ last = cc in free_over R t last.by (subst (λ (s : Step). IsFreeFor R t s.by) same f)

old_row : (sh : Shape) (R : List Record) (w : RowBody) (d : Bool) (ps : List RowPart) → MayChangeRow R w → Source R (of_row w d ps) → OldRow sh R (of_row w d ps)
old_row sh R w d ps c s = record {
  source = s;
  reason = inl (record { txn = w.txn; active = c.change.active; was = c.was; there = c.there });
  moved = λ m e. not_at _ w.txn m e;
  kept = λ m e. not_at _ w.txn m e;
  free = λ u e last f. free_last R w.txn (newest_on (standing R) w.row) last c.free f;
}

insert_shape : (sh : Shape) (R : List Record) (w : RowBody) → Segments sh R → InsertAllowed sh R w → StepShape sh R (row_step w false)
insert_shape sh R w s a = subst (λ ps. StepShape sh R (of_row w false ps)) (sym a.parts) (record {
  old = (refl, tt);
  puts = (txn_puts R w false _ 0 a.entry a.block (next_slot R a.block) (plain_row w.row a.bytes) (λ e. refl) (λ e. never' _ e), tt);
  replaces = (txn_target sh R w 0 a.entry a.block (plain_row w.row a.bytes) (row_block sh R w.obj a.block s a.change.table a.here), tt);
  outcome = inl (record { part = txn_part R w 0 a.entry a.block (next_slot R a.block) (plain_row w.row a.bytes); holder = inl (refl, refl, tt); row = refl; not_deleted = refl });
  origin = inl (w.txn, refl, a.number);
})

holds_kind : (k : Kind) → holds_row k ≡ true → (is_empty k ≡ true → ⊥)
holds_kind k h e = true≢false (sym h ∙ row_of_empty k e)

update_shape : (sh : Shape) (R : List Record) (w : RowBody) → Segments sh R → UpdateAllowed sh R w → OldShape sh R (row_step w false)
update_shape sh R w s a = subst (λ ps. OldShape sh R (of_row w false ps)) (sym a.parts) (pair_old sh R _ (λ o. record {
  old = (refl, tt);
  puts = (txn_puts R w false _ 0 a.entry a.block a.slot (with_bytes (image R a.block a.slot) a.bytes) (λ e. a.row) (λ e. absurd (holds_kind (image R a.block a.slot).kind a.holds e)), tt);
  replaces = (inl (empty_of (image R a.block a.slot).kind a.holds, a.row), tt);
  outcome = inl (record { part = txn_part R w 0 a.entry a.block a.slot (with_bytes (image R a.block a.slot) a.bytes); holder = inl (refl, a.holds, tt); row = a.row; not_deleted = refl });
  origin = inr o;
}) (old_row sh R w false _ a.change (record { block = a.block; slot = a.slot; holds = a.holds; row = a.row; named = or_left _ _ (self_place a.block a.slot) })))

migrate_plain_shape : (sh : Shape) (R : List Record) (w : RowBody) → Segments sh R → MigratePlain sh R w → OldShape sh R (row_step w false)
migrate_plain_shape sh R w s a =
    let p0 : RowPart = txn_part R w 0 a.entry a.block a.slot (head_to w.row (at_place a.target (next_slot R a.target))) in
    let p1 : RowPart = txn_part R w 1 a.target_entry a.target (next_slot R a.target) (body_of w.row (at_place a.block a.slot) a.bytes) in
    let full = row_kind (image R a.block a.slot).kind a.plain.kind in
    subst (λ ps. OldShape sh R (of_row w false ps)) (sym a.parts) (pair_old sh R _ (λ o. record {
      old = (refl, (refl, tt));
      puts = (txn_puts R w false _ 0 a.entry a.block a.slot (head_to w.row (at_place a.target (next_slot R a.target))) (λ e. refl) (λ e. never' _ e), (txn_puts R w false _ 1 a.target_entry a.target (next_slot R a.target) (body_of w.row (at_place a.block a.slot) a.bytes) (λ e. refl) (λ e. never' _ e), tt));
      replaces = (inl (full, a.plain.row), (txn_target sh R w 1 a.target_entry a.target (body_of w.row (at_place a.block a.slot) a.bytes) (row_block sh R w.obj a.target s a.change.change.table a.target_allowed.here), tt));
      outcome = inl (record { part = p1; holder = inr (refl, target_apart R a.block a.slot a.target full, inl (refl, refl, tt)); row = refl; not_deleted = refl });
      origin = inr o;
    }) (old_row sh R w false _ a.change (record { block = a.block; slot = a.slot; holds = ap holds_row a.plain.kind; row = a.plain.row; named = or_left _ _ (self_place a.block a.slot) })))

migrate_again_shape : (sh : Shape) (R : List Record) (w : RowBody) → Segments sh R → MigrateAgain sh R w → OldShape sh R (row_step w false)
migrate_again_shape sh R w s a =
    let m = a.migrated in
    let p2 : RowPart = txn_part R w 2 a.target_entry a.target (next_slot R a.target) (body_of w.row (at_place a.head_block a.head_slot) a.bytes) in
    let head = head_kind (image R a.head_block a.head_slot).kind m.head_kind in
    let body = body_kind (image R a.body_block a.body_slot).kind m.body_kind in
    subst (λ ps. OldShape sh R (of_row w false ps)) (sym a.parts) (pair_old sh R _ (λ o. record {
      old = (refl, (refl, (refl, tt)));
      puts = (txn_puts R w false _ 0 a.head_entry a.head_block a.head_slot (head_to w.row (at_place a.target (next_slot R a.target))) (λ e. refl) (λ e. never' _ e), (txn_puts R w false _ 1 a.body_entry a.body_block a.body_slot nothing (λ e. never _ e) (λ e. refl), (txn_puts R w false _ 2 a.target_entry a.target (next_slot R a.target) (body_of w.row (at_place a.head_block a.head_slot) a.bytes) (λ e. refl) (λ e. never' _ e), tt)));
      replaces = (inl (head, m.head_row), (inl (body, m.body_row), (txn_target sh R w 2 a.target_entry a.target (body_of w.row (at_place a.head_block a.head_slot) a.bytes) (row_block sh R w.obj a.target s a.change.change.table a.target_allowed.here), tt)));
      outcome = inl (record { part = p2; holder = inr (refl, target_apart R a.head_block a.head_slot a.target head, inr (refl, target_apart R a.body_block a.body_slot a.target body, inl (refl, refl, tt))); row = refl; not_deleted = refl });
      origin = inr o;
    }) (old_row sh R w false _ a.change (record { block = a.body_block; slot = a.body_slot; holds = ap holds_row m.body_kind; row = m.body_row; named = or_right (is_place a.head_block a.head_slot a.body_block a.body_slot) _ (or_left _ _ (self_place a.body_block a.body_slot)) })))

return_shape : (sh : Shape) (R : List Record) (w : RowBody) → Segments sh R → ReturnAllowed sh R w → OldShape sh R (row_step w false)
return_shape sh R w s a =
    let m = a.migrated in
    let p0 : RowPart = txn_part R w 0 a.head_entry a.head_block a.head_slot (plain_row w.row a.bytes) in
    let head = head_kind (image R a.head_block a.head_slot).kind m.head_kind in
    let body = body_kind (image R a.body_block a.body_slot).kind m.body_kind in
    subst (λ ps. OldShape sh R (of_row w false ps)) (sym a.parts) (pair_old sh R _ (λ o. record {
      old = (refl, (refl, tt));
      puts = (txn_puts R w false _ 0 a.head_entry a.head_block a.head_slot (plain_row w.row a.bytes) (λ e. refl) (λ e. never' _ e), (txn_puts R w false _ 1 a.body_entry a.body_block a.body_slot nothing (λ e. never _ e) (λ e. refl), tt));
      replaces = (inl (head, m.head_row), (inl (body, m.body_row), tt));
      outcome = inl (record { part = p0; holder = inl (refl, refl, (refl, tt)); row = refl; not_deleted = refl });
      origin = inr o;
    }) (old_row sh R w false _ a.change (record { block = a.body_block; slot = a.body_slot; holds = ap holds_row m.body_kind; row = m.body_row; named = or_right (is_place a.head_block a.head_slot a.body_block a.body_slot) _ (or_left _ _ (self_place a.body_block a.body_slot)) })))

delete_plain_shape : (sh : Shape) (R : List Record) (w : RowBody) → Segments sh R → DeletePlain sh R w → OldShape sh R (row_step w true)
delete_plain_shape sh R w s a =
    let full = row_kind (image R a.block a.slot).kind a.plain.kind in
    subst (λ ps. OldShape sh R (of_row w true ps)) (sym a.parts) (pair_old sh R _ (λ o. record {
      old = (refl, tt);
      puts = (txn_puts R w true _ 0 a.entry a.block a.slot nothing (λ e. never _ e) (λ e. refl), tt);
      replaces = (inl (full, a.plain.row), tt);
      outcome = inr (record { none = (refl, tt); deleted = refl });
      origin = inr o;
    }) (old_row sh R w true _ a.change (record { block = a.block; slot = a.slot; holds = ap holds_row a.plain.kind; row = a.plain.row; named = or_left _ _ (self_place a.block a.slot) })))

delete_migrated_shape : (sh : Shape) (R : List Record) (w : RowBody) → Segments sh R → DeleteMigrated sh R w → OldShape sh R (row_step w true)
delete_migrated_shape sh R w s a =
    let m = a.migrated in
    let head = head_kind (image R a.head_block a.head_slot).kind m.head_kind in
    let body = body_kind (image R a.body_block a.body_slot).kind m.body_kind in
    subst (λ ps. OldShape sh R (of_row w true ps)) (sym a.parts) (pair_old sh R _ (λ o. record {
      old = (refl, (refl, tt));
      puts = (txn_puts R w true _ 0 a.head_entry a.head_block a.head_slot nothing (λ e. never _ e) (λ e. refl), (txn_puts R w true _ 1 a.body_entry a.body_block a.body_slot nothing (λ e. never _ e) (λ e. refl), tt));
      replaces = (inl (head, m.head_row), (inl (body, m.body_row), tt));
      outcome = inr (record { none = (refl, (refl, tt)); deleted = refl });
      origin = inr o;
    }) (old_row sh R w true _ a.change (record { block = a.body_block; slot = a.body_slot; holds = ap holds_row m.body_kind; row = m.body_row; named = or_right (is_place a.head_block a.head_slot a.body_block a.body_slot) _ (or_left _ _ (self_place a.body_block a.body_slot)) })))

-- moves

pub found_in : (p : ℕ → Bool) (xs : List ℕ) (b : ℕ) → find p xs ≡ Some b → (is_in b xs ≡ true) × (p b ≡ true)
found_in p [] b e = absurd (let x : ◌≡◌ {A = Option ℕ} None (Some b) = e in cc)
found_in p (x ∷ xs) b e =
    elim (cases_Bool (p x)) [
      | inl y ↦ let same : ◌≡◌ {A = Option ℕ} (Some x) (Some b) = sym (cond-true _ _ _ y) ∙ e in let q : x ≡ b = cc in (or_left _ _ (eq-eqb x b q), subst (λ z. p z ≡ true) q y)
      | inr f ↦ let r = found_in p xs b (sym (cond-false _ _ _ f) ∙ e) in (or_right (eqb x b) _ r.0, r.1)
    ]

taker_present : (sh : Shape) (R : List Record) (o n len t : ℕ) → Segments sh R → IsTable R o → first_taker sh R o n len ≡ Some t → Present sh R o t
taker_present sh R o n len t s h e =
    let r = found_in (λ b. is_formatted sh R b && takes_row R (pctfree_of R o) b len Shrink) (take n (data_blocks sh R o)) t e in
    (a_table sh R o s h, in_take t n (data_blocks sh R o) r.0, (and_parts (is_formatted sh R t) (takes_row R (pctfree_of R o) t len Shrink) r.1).0)

moved_row : (sh : Shape) (R : List Record) (m : MoveRecord) (ps : List RowPart) (p : RowPart) → IsHolder p ps → p.new.row ≡ m.row → (s : Source R (of_move m ps)) → StandsIn sh R (of_move m ps)
    → writer_has_ended (ended_in R) (image R s.block s.slot).writer ≡ true → p.new.bytes ≡ (image R s.block s.slot).bytes → OldRow sh R (of_move m ps)
moved_row sh R m ps p h r s i over same = record {
  source = s;
  reason = inr i;
  moved = λ n e. (over, λ k. sym (holder_bytes k.part ps k.holder) ∙ holder_bytes p ps h ∙ same);
  kept = λ n e. record { part = p; holder = h; row = r; not_deleted = refl };
  free = λ u e. not_by _ m.number u e;
}

move_plain_shape : (sh : Shape) (R : List Record) (m : MoveRecord) → Segments sh R → MovePlain sh R m → OldShape sh R (move_step m)
move_plain_shape sh R m s a =
    let bytes = (image R a.block a.slot).bytes in
    let full = row_kind (image R a.block a.slot).kind a.plain.kind in
    let p1 : RowPart = move_part R m 1 a.target (next_slot R a.target) (plain_row m.row bytes) in
    let ps : List RowPart = move_part R m 0 a.block a.slot nothing ∷ p1 ∷ [] in
    let holder : IsHolder p1 ps = inr (refl, target_apart R a.block a.slot a.target full, inl (refl, refl, tt)) in
    subst (λ qs. OldShape sh R (of_move m qs)) (sym a.parts) (pair_old sh R _ (λ o. record {
      old = (refl, (refl, tt));
      puts = (move_puts R m ps 0 a.block a.slot nothing (λ e. never _ e) (λ e. refl), (move_puts R m ps 1 a.target (next_slot R a.target) (plain_row m.row bytes) (λ e. refl) (λ e. never' _ e), tt));
      replaces = (inl (full, a.plain.row), (move_target sh R m 1 a.target (plain_row m.row bytes) (taker_present sh R m.obj (position sh R m.obj a.block) (length bytes) a.target s a.move.table a.first), tt));
      outcome = inl (record { part = p1; holder = holder; row = refl; not_deleted = refl });
      origin = inr o;
    }) (moved_row sh R m ps p1 holder refl (record { block = a.block; slot = a.slot; holds = ap holds_row a.plain.kind; row = a.plain.row; named = or_left _ _ (self_place a.block a.slot) })
    (record { block = a.block; slot = a.slot; present = row_block sh R m.obj a.block s a.move.table a.here; holds = full; row = a.plain.row }) a.over refl))

move_to_body_shape : (sh : Shape) (R : List Record) (m : MoveRecord) → Segments sh R → MoveToBody sh R m → OldShape sh R (move_step m)
move_to_body_shape sh R m s a =
    let g = a.migrated in
    let bytes = (image R a.body_block a.body_slot).bytes in
    let head = head_kind (image R a.head_block a.head_slot).kind g.head_kind in
    let body = body_kind (image R a.body_block a.body_slot).kind g.body_kind in
    let p1 : RowPart = move_part R m 1 a.body_block a.body_slot (plain_row m.row bytes) in
    let ps : List RowPart = move_part R m 0 a.head_block a.head_slot nothing ∷ p1 ∷ [] in
    let apart = apart_by R (λ i. not (holds_row i.kind)) a.head_block a.head_slot a.body_block a.body_slot (ap (λ k. not (holds_row k)) g.head_kind) (ap (λ k. not (holds_row k)) g.body_kind) in
    let holder : IsHolder p1 ps = inr (refl, apart, inl (refl, refl, tt)) in
    subst (λ qs. OldShape sh R (of_move m qs)) (sym a.parts) (pair_old sh R _ (λ o. record {
      old = (refl, (refl, tt));
      puts = (move_puts R m ps 0 a.head_block a.head_slot nothing (λ e. never _ e) (λ e. refl), (move_puts R m ps 1 a.body_block a.body_slot (plain_row m.row bytes) (λ e. refl) (λ e. never' _ e), tt));
      replaces = (inl (head, g.head_row), (inl (body, g.body_row), tt));
      outcome = inl (record { part = p1; holder = holder; row = refl; not_deleted = refl });
      origin = inr o;
    }) (moved_row sh R m ps p1 holder refl (record { block = a.body_block; slot = a.body_slot; holds = ap holds_row g.body_kind; row = g.body_row; named = or_right (is_place a.head_block a.head_slot a.body_block a.body_slot) _ (or_left _ _ (self_place a.body_block a.body_slot)) })
    (record { block = a.head_block; slot = a.head_slot; present = row_block sh R m.obj a.head_block s a.move.table a.here; holds = head; row = g.head_row }) a.over refl))

move_migrated_shape : (sh : Shape) (R : List Record) (m : MoveRecord) → Segments sh R → MoveMigrated sh R m → OldShape sh R (move_step m)
move_migrated_shape sh R m s a =
    let g = a.migrated in
    let bytes = (image R a.body_block a.body_slot).bytes in
    let head = head_kind (image R a.head_block a.head_slot).kind g.head_kind in
    let body = body_kind (image R a.body_block a.body_slot).kind g.body_kind in
    let p2 : RowPart = move_part R m 2 a.target (next_slot R a.target) (plain_row m.row bytes) in
    let ps : List RowPart = move_part R m 0 a.head_block a.head_slot nothing ∷ move_part R m 1 a.body_block a.body_slot nothing ∷ p2 ∷ [] in
    let holder : IsHolder p2 ps = inr (refl, target_apart R a.head_block a.head_slot a.target head, inr (refl, target_apart R a.body_block a.body_slot a.target body, inl (refl, refl, tt))) in
    let at : Present sh R m.obj a.cursor = row_block sh R m.obj a.cursor s a.move.table a.here in
    let stands : StandsIn sh R (of_move m ps) = elim a.cursor_is [
      | inl e ↦ record { block = a.body_block; slot = a.body_slot; present = subst (Present sh R m.obj) e at; holds = body; row = g.body_row }
      | inr e ↦ record { block = a.head_block; slot = a.head_slot; present = subst (Present sh R m.obj) e.0 at; holds = head; row = g.head_row }
    ] in
    subst (λ qs. OldShape sh R (of_move m qs)) (sym a.parts) (pair_old sh R _ (λ o. record {
      old = (refl, (refl, (refl, tt)));
      puts = (move_puts R m ps 0 a.head_block a.head_slot nothing (λ e. never _ e) (λ e. refl), (move_puts R m ps 1 a.body_block a.body_slot nothing (λ e. never _ e) (λ e. refl), (move_puts R m ps 2 a.target (next_slot R a.target) (plain_row m.row bytes) (λ e. refl) (λ e. never' _ e), tt)));
      replaces = (inl (head, g.head_row), (inl (body, g.body_row), (move_target sh R m 2 a.target (plain_row m.row bytes) (taker_present sh R m.obj (position sh R m.obj a.cursor) (length bytes) a.target s a.move.table a.first), tt)));
      outcome = inl (record { part = p2; holder = holder; row = refl; not_deleted = refl });
      origin = inr o;
    }) (moved_row sh R m ps p2 holder refl (record { block = a.body_block; slot = a.body_slot; holds = ap holds_row g.body_kind; row = g.body_row; named = or_right (is_place a.head_block a.head_slot a.body_block a.body_slot) _ (or_left _ _ (self_place a.body_block a.body_slot)) })
    stands a.over refl))

migrate_shape : (sh : Shape) (R : List Record) (w : RowBody) → Segments sh R → MigrateAllowed sh R w → OldShape sh R (row_step w false)
migrate_shape sh R w s (migrates_plain a) = migrate_plain_shape sh R w s a
migrate_shape sh R w s (migrates_again a) = migrate_again_shape sh R w s a

delete_shape : (sh : Shape) (R : List Record) (w : RowBody) → Segments sh R → DeleteAllowed sh R w → OldShape sh R (row_step w true)
delete_shape sh R w s (deletes_plain a) = delete_plain_shape sh R w s a
delete_shape sh R w s (deletes_migrated a) = delete_migrated_shape sh R w s a

move_shape : (sh : Shape) (R : List Record) (m : MoveRecord) → Segments sh R → MoveAllowed sh R m → OldShape sh R (move_step m)
move_shape sh R m s (moves_plain a) = move_plain_shape sh R m s a
move_shape sh R m s (moves_to_body a) = move_to_body_shape sh R m s a
move_shape sh R m s (moves_migrated a) = move_migrated_shape sh R m s a

-- the shape of a record's step
abbrev pub RecordShape : Shape → List Record → Record → Type 0
RecordShape sh R (Insert w) = StepShape sh R (row_step w false)
RecordShape sh R (Update w) = OldShape sh R (row_step w false)
RecordShape sh R (Migrate w) = OldShape sh R (row_step w false)
RecordShape sh R (Return w) = OldShape sh R (row_step w false)
RecordShape sh R (Delete w) = OldShape sh R (row_step w true)
RecordShape sh R (Move m) = OldShape sh R (move_step m)
RecordShape sh R _ = Unit {0}

pub shape_of : (sh : Shape) (R : List Record) (r : Record) → Segments sh R → IsKindAllowed sh R r → RecordShape sh R r
shape_of sh R (Insert w) s a = insert_shape sh R w s a
shape_of sh R (Update w) s a = update_shape sh R w s a
shape_of sh R (Migrate w) s a = migrate_shape sh R w s a
shape_of sh R (Return w) s a = return_shape sh R w s a
shape_of sh R (Delete w) s a = delete_shape sh R w s a
shape_of sh R (Move m) s a = move_shape sh R m s a
shape_of sh R _ s a = tt
