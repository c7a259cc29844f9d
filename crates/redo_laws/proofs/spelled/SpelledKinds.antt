-- What each kind of row record and Move says of its own numbers and links.
use Rattle.std.proofs.Common.{◌≡◌, ℕ, ◌<◌, ◌≤◌, ◌^◌, Bool, true, false, List, [], length, Some, refl, sym, ◌∙◌, ap, subst, arith, true≢false}
use Rattle.seg_words.specs.Types.{Kind, Empty, Row, Head, Body, Shape, is_empty}
use Rattle.redo_model.specs.Model.{holds_row, Effect, effect_of, row_step, move_step, is_insert, standing, last_undo, image, IsTable, IsRowBlock, at_place, next_slot, MayChange, InsertAllowed, UpdateAllowed, MigratePlain, MigrateAgain, MigrateAllowed, ReturnAllowed, DeleteAllowed, MayMove, MoveAllowed, IsKindAllowed}
use Rattle.redo_model.specs.Records.{Record, Insert, Update, Migrate, Return, Delete, Move, RowPart, MoveRecord, RowBody, IsTableNumber, IsLink, IsPlace}
use Rattle.redo_model.specs.Effects.{Adds}
use Rattle.redo_model.specs.AllowedRows.{migrates_plain, migrates_again, deletes_plain, deletes_migrated}
use Rattle.redo_model.specs.AllowedMoves.{moves_plain, moves_to_body, moves_migrated}
use Rattle.redo_laws.proofs.lists.Every.{Every}
use Rattle.redo_laws.proofs.numbers.Bounds.{count_short}
use Rattle.redo_laws.proofs.space.Places.{segments, a_table}
use Rattle.redo_laws.proofs.allowed.Shapes.{row_block}
use Rattle.redo_laws.proofs.spelled.SpelledRows.{Before, KindFacts, LinkRow, full_link, target_link, last_spelled, place_spelled}

pub table_number : (sh : Shape) (R : List Record) (o : ℕ) → Before sh R → IsTable R o → IsTableNumber o
table_number sh R o q t = let n = a_table sh R o (segments sh R q.allowed) t in (n.least, n.most)

-- a row of the table is one of the image's
row_of : (sh : Shape) (R : List Record) (b k n : ℕ) → Before sh R → (image R b k).row ≡ n → n < 2 ^ 64
row_of sh R b k n q e = subst (λ m. m < 2 ^ 64) e (q.images b k).row

-- the parts of a record, and how many they are
abbrev PartFacts : List RowPart → Type 0
PartFacts ps = (length ps ≤ 3) × Every LinkRow ps

txn_facts : (sh : Shape) (R : List Record) (w : RowBody) (d : Bool) → Before sh R → MayChange R w → w.row < 2 ^ 64 → PartFacts w.parts → KindFacts (row_step w d)
txn_facts sh R w d q c row ps = record {
  obj = table_number sh R w.obj q c.table;
  row = row;
  previous = subst IsPlace (sym c.previous) (place_spelled (last_undo R w.txn) (last_spelled (standing R) w.txn q.steps));
  few = ps.0;
  links = ps.1;
}

move_facts : (sh : Shape) (R : List Record) (m : MoveRecord) → Before sh R → MayMove R m → m.row < 2 ^ 64 → PartFacts m.parts → KindFacts (move_step m)
move_facts sh R m q c row ps = record { obj = table_number sh R m.obj q c.table; row = row; previous = tt; few = ps.0; links = ps.1 }

-- an Empty image
none : Unit {0} × (0 < 2 ^ 64) × (Empty ≡ Head → ◌≡◌ {A = List ℕ} [] [])
none = (tt, omega arith, λ e. refl)

row_head : (P : Type 0) → Row ≡ Head → P
row_head P e = absurd cc

body_head : (P : Type 0) → Body ≡ Head → P
body_head P e = absurd cc

holds_head : (P : Type 0) (k : Kind) → holds_row k ≡ true → k ≡ Head → P
holds_head P k h e = absurd (true≢false (sym h ∙ ap holds_row e))

target : (sh : Shape) (R : List Record) (o b : ℕ) → Before sh R → IsTable R o → IsRowBlock sh R o b → IsLink (Some (at_place b (next_slot R b)))
target sh R o b q t h = target_link sh R o b q (row_block sh R o b (segments sh R q.allowed) t h).1

insert_facts : (sh : Shape) (R : List Record) (w : RowBody) → Before sh R → InsertAllowed sh R w → KindFacts (row_step w false)
insert_facts sh R w q a =
    let c = count_short is_insert R in
    let n = a.number in
    let short = q.short in
    let row : w.row < 2 ^ 64 = omega (arith, c, n, short) in
    txn_facts sh R w false q a.change row (subst PartFacts (sym a.parts) (omega arith, ((tt, row, λ e. row_head _ e), tt)))

update_facts : (sh : Shape) (R : List Record) (w : RowBody) → Before sh R → UpdateAllowed sh R w → KindFacts (row_step w false)
update_facts sh R w q a =
    let i = q.images a.block a.slot in
    txn_facts sh R w false q a.change.change (row_of sh R a.block a.slot w.row q a.row) (subst PartFacts (sym a.parts) (omega arith, ((i.link, i.row, λ e. holds_head _ (image R a.block a.slot).kind a.holds e), tt)))

migrate_plain_facts : (sh : Shape) (R : List Record) (w : RowBody) → Before sh R → MigratePlain sh R w → KindFacts (row_step w false)
migrate_plain_facts sh R w q a =
    let row = row_of sh R a.block a.slot w.row q a.plain.row in
    let to = target sh R w.obj a.target q a.change.change.table a.target_allowed.here in
    let back = full_link sh R a.block a.slot q (ap is_empty a.plain.kind) in
    txn_facts sh R w false q a.change.change row (subst PartFacts (sym a.parts) (omega arith, ((to, row, λ e. refl), ((back, row, λ e. body_head _ e), tt))))

migrate_again_facts : (sh : Shape) (R : List Record) (w : RowBody) → Before sh R → MigrateAgain sh R w → KindFacts (row_step w false)
migrate_again_facts sh R w q a =
    let row = row_of sh R a.head_block a.head_slot w.row q a.migrated.head_row in
    let to = target sh R w.obj a.target q a.change.change.table a.target_allowed.here in
    let back = full_link sh R a.head_block a.head_slot q (ap is_empty a.migrated.head_kind) in
    txn_facts sh R w false q a.change.change row (subst PartFacts (sym a.parts) (omega arith, ((to, row, λ e. refl), (none, ((back, row, λ e. body_head _ e), tt)))))

return_facts : (sh : Shape) (R : List Record) (w : RowBody) → Before sh R → ReturnAllowed sh R w → KindFacts (row_step w false)
return_facts sh R w q a =
    let row = row_of sh R a.head_block a.head_slot w.row q a.migrated.head_row in
    txn_facts sh R w false q a.change.change row (subst PartFacts (sym a.parts) (omega arith, ((tt, row, λ e. row_head _ e), (none, tt))))

delete_facts : (sh : Shape) (R : List Record) (w : RowBody) → Before sh R → DeleteAllowed sh R w → KindFacts (row_step w true)
delete_facts sh R w q (deletes_plain a) = txn_facts sh R w true q a.change.change (row_of sh R a.block a.slot w.row q a.plain.row) (subst PartFacts (sym a.parts) (omega arith, (none, tt)))
delete_facts sh R w q (deletes_migrated a) = txn_facts sh R w true q a.change.change (row_of sh R a.head_block a.head_slot w.row q a.migrated.head_row) (subst PartFacts (sym a.parts) (omega arith, (none, (none, tt))))

migrate_facts : (sh : Shape) (R : List Record) (w : RowBody) → Before sh R → MigrateAllowed sh R w → KindFacts (row_step w false)
migrate_facts sh R w q (migrates_plain a) = migrate_plain_facts sh R w q a
migrate_facts sh R w q (migrates_again a) = migrate_again_facts sh R w q a

move_kind_facts : (sh : Shape) (R : List Record) (m : MoveRecord) → Before sh R → MoveAllowed sh R m → KindFacts (move_step m)
move_kind_facts sh R m q (moves_plain a) = let row = row_of sh R a.block a.slot m.row q a.plain.row in move_facts sh R m q a.move row (subst PartFacts (sym a.parts) (omega arith, (none, ((tt, row, λ e. row_head _ e), tt))))
move_kind_facts sh R m q (moves_to_body a) = let row = row_of sh R a.head_block a.head_slot m.row q a.migrated.head_row in move_facts sh R m q a.move row (subst PartFacts (sym a.parts) (omega arith, (none, ((tt, row, λ e. row_head _ e), tt))))
move_kind_facts sh R m q (moves_migrated a) = let row = row_of sh R a.head_block a.head_slot m.row q a.migrated.head_row in move_facts sh R m q a.move row (subst PartFacts (sym a.parts) (omega arith, (none, (none, ((tt, row, λ e. row_head _ e), tt)))))

abbrev pub EffectFacts : Effect → Type 0
EffectFacts (Adds st) = KindFacts st
EffectFacts _ = Unit {0}

pub facts_of : (sh : Shape) (R : List Record) (r : Record) → Before sh R → IsKindAllowed sh R r → EffectFacts (effect_of r)
facts_of sh R (Insert w) q a = insert_facts sh R w q a
facts_of sh R (Update w) q a = update_facts sh R w q a
facts_of sh R (Migrate w) q a = migrate_facts sh R w q a
facts_of sh R (Return w) q a = return_facts sh R w q a
facts_of sh R (Delete w) q a = delete_facts sh R w q a
facts_of sh R (Move m) q a = move_kind_facts sh R m q a
facts_of sh R _ q a = tt
