-- The room that each kind of row record and Move takes in its blocks.
use Rattle.std.proofs.Common.{◌≡◌, ◌⊎◌, ℕ, ◌<◌, ◌≤◌, true, false, ◌&&◌, leb, List, [], length, take, Some, None, find, refl, sym, ◌∙◌, ap, subst, arith, inl, inr, le_refl, true≢false, leb-true, leb-false}
use Rattle.seg_words.proofs.Lemmas.{cond-true, cases_Bool, and_parts}
use Rattle.seg_words.specs.Types.{Shape, Kind, Empty, Row, Head, Body, Slot, Writer, By, At, is_empty, writer_has_ended, Taker, Open, Shrink, row_size, entry_for, takes, fits, LONGEST_ROW}
use Rattle.redo_model.specs.Records.{Record, RowPart, RowBody, MoveRecord, Insert, Update, Migrate, Return, Delete, Move}
use Rattle.redo_model.specs.Model.{Step, Effect, effect_of, row_step, move_step, ended_in, holds_row, image, IsKindAllowed, slot_count, block_of, takes_row, data_blocks, is_formatted, position, pctfree_of, nothing, plain_row, head_to, body_of, with_bytes, at_place, txn_part, next_slot, InsertAllowed, UpdateAllowed, MigratePlain, MigrateAgain, MigrateAllowed, ReturnAllowed, DeletePlain, DeleteMigrated, DeleteAllowed, move_part, MovePlain, MoveToBody, MoveMigrated, MoveAllowed}
use Rattle.redo_model.specs.Effects.{Adds}
use Rattle.redo_laws.proofs.lists.Every.{Every}
use Rattle.redo_model.specs.AllowedRows.{migrates_plain, migrates_again, deletes_plain, deletes_migrated}
use Rattle.redo_model.specs.AllowedMoves.{moves_plain, moves_to_body, moves_migrated}
use Rattle.redo_laws.proofs.allowed.AllKinds.{of_row, of_move, found_in}
use Rattle.redo_laws.proofs.steps.Beyond.{beyond}

-- a part that takes no more than its slot counts already
pub record Quiet (R : List Record) (p : RowPart) : Type 0 where
  pub there : p.slot < slot_count R p.dba
  pub less : length p.new.bytes ≤ row_size (ended_in R) p.old

-- for whom a step takes room
abbrev pub IsTaker : Writer → Taker → Type 0
IsTaker (By t) taker = taker ≡ Open t
IsTaker (At m) taker = taker ≡ Shrink

pub record Taken (R : List Record) (st : Step) (p : RowPart) : Type 0 where
  pub slot : p.slot ≡ next_slot R p.dba
  pub pctfree : ℕ
  pub taker : Taker
  pub whose : IsTaker st.by taker
  pub takes_it : takes (ended_in R) pctfree (block_of R p.dba) (length p.new.bytes) taker ≡ true

pub record Fitted (R : List Record) (st : Step) (p : RowPart) : Type 0 where
  pub there : p.slot < slot_count R p.dba
  pub txn : ℕ
  pub whose : st.by ≡ By txn
  pub fits_it : fits (ended_in R) (block_of R p.dba) p.slot (length p.new.bytes) (Open txn) ≡ true

-- the one part that grows, beside quiet ones
pub record OneGrows (R : List Record) (st : Step) : Type 0 where
  pub part : RowPart
  pub old : part.old ≡ image R part.dba part.slot
  pub grows : Taken R st part ⊎ Fitted R st part
  pub others : Every (λ (p : RowPart). Quiet R p ⊎ (p ≡ part)) st.parts

pub record EntersAt (R : List Record) (t : ℕ) (p : RowPart) : Type 0 where
  pub entry : ℕ
  pub entry_is : p.entry ≡ Some entry
  pub for_it : entry_for (ended_in R) (block_of R p.dba) t ≡ Some entry

-- a row of at most 1,800 bytes, or one that stood in a slot
abbrev pub IsShort : List Record → RowPart → Type 0
IsShort R p = (length p.new.bytes ≤ LONGEST_ROW) ⊎ ((b : ℕ) × (k : ℕ) × (p.new.bytes ≡ (image R b k).bytes))

abbrev pub Enter : List Record → Writer → List RowPart → Type 0
Enter R (By t) ps = Every (EntersAt R t) ps
Enter R (At m) ps = Every (λ (p : RowPart). p.entry ≡ None) ps

pub record StepRoom (R : List Record) (st : Step) : Type 0 where
  pub rooms : Every (Quiet R) st.parts ⊎ OneGrows R st
  pub entries : Enter R st.by st.parts
  pub short : Every (IsShort R) st.parts

-- a slot that holds something is there
there : (R : List Record) (b k : ℕ) → is_empty (image R b k).kind ≡ false → k < slot_count R b
there R b k e = elim (cases_Bool (leb (slot_count R b) k)) [
  | inr f ↦ leb-false (slot_count R b) k f
  | inl y ↦ absurd (true≢false (ap (λ (i : Slot). is_empty i.kind) (sym (beyond R b k (leb-true (slot_count R b) k y)).0) ∙ e))
]

quiet_empty : (R : List Record) (b k : ℕ) (p : RowPart) → is_empty (image R b k).kind ≡ false → p.dba ≡ b → p.slot ≡ k → p.new.bytes ≡ [] → Quiet R p
quiet_empty R b k p e d s n = record { there = subst (λ x. p.slot < slot_count R x) (sym d) (subst (λ x. x < slot_count R b) (sym s) (there R b k e)); less = subst (λ (x : List ℕ). length x ≤ row_size (ended_in R) p.old) (sym n) (omega arith) }

zero_short : (R : List Record) (p : RowPart) → p.new.bytes ≡ [] → IsShort R p
zero_short R p e = inl (subst (λ (x : List ℕ). length x ≤ LONGEST_ROW) (sym e) (omega arith))

-- the pieces of each kind

insert_room : (sh : Shape) (R : List Record) (w : RowBody) → InsertAllowed sh R w → StepRoom R (row_step w false)
insert_room sh R w a =
    let p : RowPart = txn_part R w 0 a.entry a.block (next_slot R a.block) (plain_row w.row a.bytes) in
    subst (λ ps. StepRoom R (of_row w false ps)) (sym a.parts) (record {
      rooms = inr (record { part = p; old = refl; grows = inl (record { slot = refl; pctfree = pctfree_of R w.obj; taker = Open w.txn; whose = refl; takes_it = a.takes }); others = (inr refl, tt) });
      entries = (record { entry = a.entry; entry_is = refl; for_it = a.enters.entry_is }, tt);
      short = (inl a.size.most, tt);
    })

holds_full : (k : Kind) → holds_row k ≡ true → is_empty k ≡ false
holds_full Empty h = absurd (true≢false (sym h))
holds_full Row h = refl
holds_full Head h = absurd (true≢false (sym h))
holds_full Body h = refl

update_room : (sh : Shape) (R : List Record) (w : RowBody) → UpdateAllowed sh R w → StepRoom R (row_step w false)
update_room sh R w a =
    let p : RowPart = txn_part R w 0 a.entry a.block a.slot (with_bytes (image R a.block a.slot) a.bytes) in
    subst (λ ps. StepRoom R (of_row w false ps)) (sym a.parts) (record {
      rooms = inr (record { part = p; old = refl; grows = inr (record { there = there R a.block a.slot (holds_full (image R a.block a.slot).kind a.holds); txn = w.txn; whose = refl; fits_it = a.fits }); others = (inr refl, tt) });
      entries = (record { entry = a.entry; entry_is = refl; for_it = a.enters.entry_is }, tt);
      short = (inl a.size.most, tt);
    })

migrate_plain_room : (sh : Shape) (R : List Record) (w : RowBody) → MigratePlain sh R w → StepRoom R (row_step w false)
migrate_plain_room sh R w a =
    let p0 : RowPart = txn_part R w 0 a.entry a.block a.slot (head_to w.row (at_place a.target (next_slot R a.target))) in
    let p1 : RowPart = txn_part R w 1 a.target_entry a.target (next_slot R a.target) (body_of w.row (at_place a.block a.slot) a.bytes) in
    subst (λ ps. StepRoom R (of_row w false ps)) (sym a.parts) (record {
      rooms = inr (record {
        part = p1;
        old = refl;
        grows = inl (record { slot = refl; pctfree = pctfree_of R w.obj; taker = Open w.txn; whose = refl; takes_it = a.target_allowed.takes });
        others = (inl (quiet_empty R a.block a.slot p0 (ap is_empty a.plain.kind) refl refl refl), (inr refl, tt));
      });
      entries = (record { entry = a.entry; entry_is = refl; for_it = a.enters.entry_is }, (record { entry = a.target_entry; entry_is = refl; for_it = a.target_allowed.enters.entry_is }, tt));
      short = (zero_short R p0 refl, (inl a.size.most, tt));
    })

migrate_again_room : (sh : Shape) (R : List Record) (w : RowBody) → MigrateAgain sh R w → StepRoom R (row_step w false)
migrate_again_room sh R w a =
    let p0 : RowPart = txn_part R w 0 a.head_entry a.head_block a.head_slot (head_to w.row (at_place a.target (next_slot R a.target))) in
    let p1 : RowPart = txn_part R w 1 a.body_entry a.body_block a.body_slot nothing in
    let p2 : RowPart = txn_part R w 2 a.target_entry a.target (next_slot R a.target) (body_of w.row (at_place a.head_block a.head_slot) a.bytes) in
    subst (λ ps. StepRoom R (of_row w false ps)) (sym a.parts) (record {
      rooms = inr (record {
        part = p2;
        old = refl;
        grows = inl (record { slot = refl; pctfree = pctfree_of R w.obj; taker = Open w.txn; whose = refl; takes_it = a.target_allowed.takes });
        others = (inl (quiet_empty R a.head_block a.head_slot p0 (ap is_empty a.migrated.head_kind) refl refl refl), (inl (quiet_empty R a.body_block a.body_slot p1 (ap is_empty a.migrated.body_kind) refl refl refl), (inr refl, tt)));
      });
      entries = (record { entry = a.head_entry; entry_is = refl; for_it = a.head_enters.entry_is }, (record { entry = a.body_entry; entry_is = refl; for_it = a.body_enters.entry_is }, (record { entry = a.target_entry; entry_is = refl; for_it = a.target_allowed.enters.entry_is }, tt)));
      short = (zero_short R p0 refl, (zero_short R p1 refl, (inl a.size.most, tt)));
    })

return_room : (sh : Shape) (R : List Record) (w : RowBody) → ReturnAllowed sh R w → StepRoom R (row_step w false)
return_room sh R w a =
    let p0 : RowPart = txn_part R w 0 a.head_entry a.head_block a.head_slot (plain_row w.row a.bytes) in
    let p1 : RowPart = txn_part R w 1 a.body_entry a.body_block a.body_slot nothing in
    subst (λ ps. StepRoom R (of_row w false ps)) (sym a.parts) (record {
      rooms = inr (record {
        part = p0;
        old = refl;
        grows = inr (record { there = there R a.head_block a.head_slot (ap is_empty a.migrated.head_kind); txn = w.txn; whose = refl; fits_it = a.fits });
        others = (inr refl, (inl (quiet_empty R a.body_block a.body_slot p1 (ap is_empty a.migrated.body_kind) refl refl refl), tt));
      });
      entries = (record { entry = a.head_entry; entry_is = refl; for_it = a.head_enters.entry_is }, (record { entry = a.body_entry; entry_is = refl; for_it = a.body_enters.entry_is }, tt));
      short = (inl a.size.most, (zero_short R p1 refl, tt));
    })

delete_plain_room : (sh : Shape) (R : List Record) (w : RowBody) → DeletePlain sh R w → StepRoom R (row_step w true)
delete_plain_room sh R w a =
    let p0 : RowPart = txn_part R w 0 a.entry a.block a.slot nothing in
    subst (λ ps. StepRoom R (of_row w true ps)) (sym a.parts) (record {
      rooms = inl (quiet_empty R a.block a.slot p0 (ap is_empty a.plain.kind) refl refl refl, tt);
      entries = (record { entry = a.entry; entry_is = refl; for_it = a.enters.entry_is }, tt);
      short = (zero_short R p0 refl, tt);
    })

delete_migrated_room : (sh : Shape) (R : List Record) (w : RowBody) → DeleteMigrated sh R w → StepRoom R (row_step w true)
delete_migrated_room sh R w a =
    let p0 : RowPart = txn_part R w 0 a.head_entry a.head_block a.head_slot nothing in
    let p1 : RowPart = txn_part R w 1 a.body_entry a.body_block a.body_slot nothing in
    subst (λ ps. StepRoom R (of_row w true ps)) (sym a.parts) (record {
      rooms = inl (quiet_empty R a.head_block a.head_slot p0 (ap is_empty a.migrated.head_kind) refl refl refl, (quiet_empty R a.body_block a.body_slot p1 (ap is_empty a.migrated.body_kind) refl refl refl, tt));
      entries = (record { entry = a.head_entry; entry_is = refl; for_it = a.head_enters.entry_is }, (record { entry = a.body_entry; entry_is = refl; for_it = a.body_enters.entry_is }, tt));
      short = (zero_short R p0 refl, (zero_short R p1 refl, tt));
    })

first_takes : (sh : Shape) (R : List Record) (o n len t : ℕ) → find (λ b. is_formatted sh R b && takes_row R (pctfree_of R o) b len Shrink) (take n (data_blocks sh R o)) ≡ Some t → takes (ended_in R) (pctfree_of R o) (block_of R t) len Shrink ≡ true
first_takes sh R o n len t e = (and_parts (is_formatted sh R t) (takes_row R (pctfree_of R o) t len Shrink) (found_in (λ b. is_formatted sh R b && takes_row R (pctfree_of R o) b len Shrink) (take n (data_blocks sh R o)) t e).1).1

move_plain_room : (sh : Shape) (R : List Record) (m : MoveRecord) → MovePlain sh R m → StepRoom R (move_step m)
move_plain_room sh R m a =
    let bytes = (image R a.block a.slot).bytes in
    let p0 : RowPart = move_part R m 0 a.block a.slot nothing in
    let p1 : RowPart = move_part R m 1 a.target (next_slot R a.target) (plain_row m.row bytes) in
    subst (λ ps. StepRoom R (of_move m ps)) (sym a.parts) (record {
      rooms = inr (record {
        part = p1;
        old = refl;
        grows = inl (record { slot = refl; pctfree = pctfree_of R m.obj; taker = Shrink; whose = refl; takes_it = first_takes sh R m.obj (position sh R m.obj a.block) (length bytes) a.target a.first });
        others = (inl (quiet_empty R a.block a.slot p0 (ap is_empty a.plain.kind) refl refl refl), (inr refl, tt));
      });
      entries = (refl, (refl, tt));
      short = (zero_short R p0 refl, (inr (a.block, a.slot, refl), tt));
    })

move_to_body_room : (sh : Shape) (R : List Record) (m : MoveRecord) → MoveToBody sh R m → StepRoom R (move_step m)
move_to_body_room sh R m a =
    let bytes = (image R a.body_block a.body_slot).bytes in
    let p0 : RowPart = move_part R m 0 a.head_block a.head_slot nothing in
    let p1 : RowPart = move_part R m 1 a.body_block a.body_slot (plain_row m.row bytes) in
    let size : row_size (ended_in R) (image R a.body_block a.body_slot) ≡ length bytes = cond-true (writer_has_ended (ended_in R) (image R a.body_block a.body_slot).writer) (length bytes) (image R a.body_block a.body_slot).room a.over in
    subst (λ ps. StepRoom R (of_move m ps)) (sym a.parts) (record {
      rooms = inl (
        quiet_empty R a.head_block a.head_slot p0 (ap is_empty a.migrated.head_kind) refl refl refl,
        (record { there = there R a.body_block a.body_slot (ap is_empty a.migrated.body_kind); less = subst (λ n. length bytes ≤ n) (sym size) (le_refl (length bytes)) }, tt),
      );
      entries = (refl, (refl, tt));
      short = (zero_short R p0 refl, (inr (a.body_block, a.body_slot, refl), tt));
    })

move_migrated_room : (sh : Shape) (R : List Record) (m : MoveRecord) → MoveMigrated sh R m → StepRoom R (move_step m)
move_migrated_room sh R m a =
    let bytes = (image R a.body_block a.body_slot).bytes in
    let p0 : RowPart = move_part R m 0 a.head_block a.head_slot nothing in
    let p1 : RowPart = move_part R m 1 a.body_block a.body_slot nothing in
    let p2 : RowPart = move_part R m 2 a.target (next_slot R a.target) (plain_row m.row bytes) in
    subst (λ ps. StepRoom R (of_move m ps)) (sym a.parts) (record {
      rooms = inr (record {
        part = p2;
        old = refl;
        grows = inl (record { slot = refl; pctfree = pctfree_of R m.obj; taker = Shrink; whose = refl; takes_it = first_takes sh R m.obj (position sh R m.obj a.cursor) (length bytes) a.target a.first });
        others = (inl (quiet_empty R a.head_block a.head_slot p0 (ap is_empty a.migrated.head_kind) refl refl refl), (inl (quiet_empty R a.body_block a.body_slot p1 (ap is_empty a.migrated.body_kind) refl refl refl), (inr refl, tt)));
      });
      entries = (refl, (refl, (refl, tt)));
      short = (zero_short R p0 refl, (zero_short R p1 refl, (inr (a.body_block, a.body_slot, refl), tt)));
    })

migrate_room : (sh : Shape) (R : List Record) (w : RowBody) → MigrateAllowed sh R w → StepRoom R (row_step w false)
migrate_room sh R w (migrates_plain a) = migrate_plain_room sh R w a
migrate_room sh R w (migrates_again a) = migrate_again_room sh R w a

delete_room : (sh : Shape) (R : List Record) (w : RowBody) → DeleteAllowed sh R w → StepRoom R (row_step w true)
delete_room sh R w (deletes_plain a) = delete_plain_room sh R w a
delete_room sh R w (deletes_migrated a) = delete_migrated_room sh R w a

move_room : (sh : Shape) (R : List Record) (m : MoveRecord) → MoveAllowed sh R m → StepRoom R (move_step m)
move_room sh R m (moves_plain a) = move_plain_room sh R m a
move_room sh R m (moves_to_body a) = move_to_body_room sh R m a
move_room sh R m (moves_migrated a) = move_migrated_room sh R m a

abbrev pub EffectRoom : List Record → Effect → Type 0
EffectRoom R (Adds st) = StepRoom R st
EffectRoom R _ = Unit {0}

pub room_of : (sh : Shape) (R : List Record) (r : Record) → IsKindAllowed sh R r → EffectRoom R (effect_of r)
room_of sh R (Insert w) a = insert_room sh R w a
room_of sh R (Update w) a = update_room sh R w a
room_of sh R (Migrate w) a = migrate_room sh R w a
room_of sh R (Return w) a = return_room sh R w a
room_of sh R (Delete w) a = delete_room sh R w a
room_of sh R (Move m) a = move_room sh R m a
room_of sh R _ a = tt
