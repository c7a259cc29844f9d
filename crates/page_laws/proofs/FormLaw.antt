-- The images that an allowed record puts, and the parts that it keeps, are of the form that has a spelling, whatever their
-- numbers are.
use Rattle.std.proofs.Common.{◌≡◌, ℕ, suc, ◌+◌, ◌-◌, ◌<◌, ◌≤◌, true, false, not, List, [], ◌∷◌, length, map, Option, Some, None, find, refl, sym, ◌∙◌, ap, subst, arith, inl, inr, true≢false}
use Rattle.seg_words.specs.Types.{AllByRecursion, Shape, Kind, Empty, Row, Head, Body, Slot, UndoAddr, number_of_writer, is_empty, OWN_BLOCKS, LEAST_UNDO_BLOCKS}
use Rattle.page_bytes.specs.Types.{len_as, LinkIsThere, HasSlotForm}
use Rattle.row_block.proofs.Held.{clean_form}
use Rattle.undo_block.specs.Types.{PlaceIsThere, HasPartForm}
use Rattle.redo_model.specs.Records.{Record, Reuse, Insert, Update, Migrate, Return, Delete, Move, RowPart, RowBody, MoveRecord}
use Rattle.redo_model.specs.Model.{Step, Effect, effect_of, holds_row, image, standing, newest_of, undo_of_step, last_undo, current_undo, ring_after, has_holder, blocks_from, held_by, IsTable, IsRowBlock, Content, nothing, plain_row, head_to, body_of, with_bytes, at_place, next_slot, txn_part, move_part, place_of_undo, MayChange, InsertAllowed, UpdateAllowed, MigratePlain, MigrateAgain, MigrateAllowed, ReturnAllowed, DeleteAllowed, MoveAllowed, IsKindAllowed, AreAllowed}
use Rattle.redo_model.specs.Effects.{Adds}
use Rattle.redo_model.specs.AllowedRows.{migrates_plain, migrates_again, deletes_plain, deletes_migrated}
use Rattle.redo_model.specs.AllowedMoves.{moves_plain, moves_to_body, moves_migrated}
use Rattle.redo_laws.proofs.lists.Every.{Every}
use Rattle.redo_laws.proofs.allowed.AllKinds.{found_in}
use Rattle.redo_laws.proofs.allowed.Shapes.{row_block}
use Rattle.redo_laws.proofs.numbers.Bounds.{data_bound}
use Rattle.redo_laws.proofs.space.Places.{in_either, in_range, segments}
use Rattle.redo_laws.proofs.spread.Whole.{whole}
use Rattle.redo_laws.proofs.steps.Held.{newest_has}
use Rattle.redo_laws.proofs.steps.ImageFacts.{IsKept, EffectPuts, Puts, effect_puts, all_have}
use Rattle.page_laws.specs.UndoPages.{as_kept}
use Rattle.page_laws.proofs.TxnsLaw.{InRing, in_ring}

-- the undo block that a record names isn't block 0

next_there : (sh : Shape) (R : List Record) (u : ℕ) (o : Option ℕ) → ◌≡◌ {A = Option ℕ} (elim o [ None ↦ Some OWN_BLOCKS | Some v ↦ find (λ b. not (has_holder R b)) (ring_after sh v) ]) (Some u) → 0 < u
next_there sh R u None e = let same : OWN_BLOCKS ≡ u = (let x : ◌≡◌ {A = Option ℕ} (Some OWN_BLOCKS) (Some u) = e in cc) in omega (arith, same)
next_there sh R u (Some v) e =
    let f = found_in (λ b. not (has_holder R b)) (ring_after sh v) u e in
    elim (in_either u (blocks_from (suc v) (OWN_BLOCKS - 1 + sh.undo - v)) (blocks_from OWN_BLOCKS (v - OWN_BLOCKS)) f.0) [
      | inl y ↦ let from = (in_range u (suc v) (OWN_BLOCKS - 1 + sh.undo - v) y).0 in omega (arith, from)
      | inr y ↦ let from = (in_range u OWN_BLOCKS (v - OWN_BLOCKS) y).0 in omega (arith, from)
    ]

current_there : (sh : Shape) (R : List Record) (u : ℕ) → AreAllowed sh R → current_undo R ≡ Some u → 0 < u
current_there sh [] u h e = absurd (let x : ◌≡◌ {A = Option ℕ} None (Some u) = e in cc)
current_there sh (Reuse q ∷ R) u h e =
    let same : q.block ≡ u = (let x : ◌≡◌ {A = Option ℕ} (Some q.block) (Some u) = e in cc) in
    next_there sh R u (current_undo R) (h.1.kind.block.next ∙ ap (λ (x : ℕ). Some x) same)
current_there sh (_ ∷ R) u h e = current_there sh R u h.0 e

-- nor is the block that a link names

full_there : (sh : Shape) (R : List Record) (b k : ℕ) → AreAllowed sh R → is_empty (image R b k).kind ≡ false → 0 < b
full_there sh R b k h e = elim ((whole sh R h).homes b) [
  | inl l ↦ (let from = (data_bound sh R l.obj b h l.here.1).0 in omega (arith, from))
  | inr d ↦ absurd (true≢false (sym (d.vacant k).empty ∙ e))
]

target_there : (sh : Shape) (R : List Record) (o b : ℕ) → AreAllowed sh R → IsTable R o → IsRowBlock sh R o b → 0 < b
target_there sh R o b h t x = let from = (data_bound sh R o b h (row_block sh R o b (segments sh R h) t x).1).0 in omega (arith, from)

-- what a slot is to hold

record IsContent (c : Content) : Type 0 where
  link : LinkIsThere c.link
  len : len_as c.kind (length c.bytes) ≡ length c.bytes

nothing_is : IsContent nothing
nothing_is = record { link = tt; len = refl }

row_is : (n : ℕ) (bytes : List ℕ) → IsContent (plain_row n bytes)
row_is n bytes = record { link = tt; len = refl }

head_is : (n b k : ℕ) → 0 < b → IsContent (head_to n (at_place b k))
head_is n b k l = record { link = l; len = refl }

body_is : (n b k : ℕ) (bytes : List ℕ) → 0 < b → IsContent (body_of n (at_place b k) bytes)
body_is n b k bytes l = record { link = l; len = refl }

holds_len : (k : Kind) (n : ℕ) → holds_row k ≡ true → len_as k n ≡ n
holds_len Empty n h = absurd (true≢false (sym h))
holds_len Row n h = refl
holds_len Head n h = absurd (true≢false (sym h))
holds_len Body n h = refl

same_is : (i : Slot) (bytes : List ℕ) → HasSlotForm i → holds_row i.kind ≡ true → IsContent (with_bytes i bytes)
same_is i bytes f h = record { link = f.link; len = holds_len i.kind (length bytes) h }

-- parts

abbrev NewFormed : List RowPart → Type 0
NewFormed ps = Every (λ (p : RowPart). HasSlotForm p.new) ps

txn_formed : (R : List Record) (w : RowBody) (i entry b k : ℕ) (c : Content) → 0 < w.undo.block → IsContent c → HasSlotForm (txn_part R w i entry b k c).new
txn_formed R w i entry b k c u x = record { undo = u; link = x.link; len = x.len; room = omega arith }

move_formed : (R : List Record) (m : MoveRecord) (i b k : ℕ) (c : Content) → 0 < m.undo.block → IsContent c → HasSlotForm (move_part R m i b k c).new
move_formed R m i b k c u x = record { undo = u; link = x.link; len = x.len; room = refl }

-- each kind

insert_formed : (sh : Shape) (R : List Record) (w : RowBody) → AreAllowed sh R → InsertAllowed sh R w → NewFormed w.parts
insert_formed sh R w h a =
    let u = current_there sh R w.undo.block h a.change.undo.current in
    subst NewFormed (sym a.parts) (txn_formed R w 0 a.entry a.block (next_slot R a.block) (plain_row w.row a.bytes) u (row_is w.row a.bytes), tt)

update_formed : (sh : Shape) (R : List Record) (w : RowBody) → AreAllowed sh R → ((b k : ℕ) → HasSlotForm (image R b k)) → UpdateAllowed sh R w → NewFormed w.parts
update_formed sh R w h i a =
    let u = current_there sh R w.undo.block h a.change.change.undo.current in
    subst NewFormed (sym a.parts) (txn_formed R w 0 a.entry a.block a.slot (with_bytes (image R a.block a.slot) a.bytes) u (same_is (image R a.block a.slot) a.bytes (i a.block a.slot) a.holds), tt)

migrate_plain_formed : (sh : Shape) (R : List Record) (w : RowBody) → AreAllowed sh R → MigratePlain sh R w → NewFormed w.parts
migrate_plain_formed sh R w h a =
    let u = current_there sh R w.undo.block h a.change.change.undo.current in
    let to = target_there sh R w.obj a.target h a.change.change.table a.target_allowed.here in
    let back = full_there sh R a.block a.slot h (ap is_empty a.plain.kind) in
    subst NewFormed (sym a.parts) (
      txn_formed R w 0 a.entry a.block a.slot (head_to w.row (at_place a.target (next_slot R a.target))) u (head_is w.row a.target (next_slot R a.target) to),
      (txn_formed R w 1 a.target_entry a.target (next_slot R a.target) (body_of w.row (at_place a.block a.slot) a.bytes) u (body_is w.row a.block a.slot a.bytes back), tt),
    )

migrate_again_formed : (sh : Shape) (R : List Record) (w : RowBody) → AreAllowed sh R → MigrateAgain sh R w → NewFormed w.parts
migrate_again_formed sh R w h a =
    let u = current_there sh R w.undo.block h a.change.change.undo.current in
    let to = target_there sh R w.obj a.target h a.change.change.table a.target_allowed.here in
    let back = full_there sh R a.head_block a.head_slot h (ap is_empty a.migrated.head_kind) in
    subst NewFormed (sym a.parts) (
      txn_formed R w 0 a.head_entry a.head_block a.head_slot (head_to w.row (at_place a.target (next_slot R a.target))) u (head_is w.row a.target (next_slot R a.target) to),
      (
        txn_formed R w 1 a.body_entry a.body_block a.body_slot nothing u nothing_is,
        (txn_formed R w 2 a.target_entry a.target (next_slot R a.target) (body_of w.row (at_place a.head_block a.head_slot) a.bytes) u (body_is w.row a.head_block a.head_slot a.bytes back), tt),
      ),
    )

migrate_formed : (sh : Shape) (R : List Record) (w : RowBody) → AreAllowed sh R → MigrateAllowed sh R w → NewFormed w.parts
migrate_formed sh R w h (migrates_plain a) = migrate_plain_formed sh R w h a
migrate_formed sh R w h (migrates_again a) = migrate_again_formed sh R w h a

return_formed : (sh : Shape) (R : List Record) (w : RowBody) → AreAllowed sh R → ReturnAllowed sh R w → NewFormed w.parts
return_formed sh R w h a =
    let u = current_there sh R w.undo.block h a.change.change.undo.current in
    subst NewFormed (sym a.parts) (
      txn_formed R w 0 a.head_entry a.head_block a.head_slot (plain_row w.row a.bytes) u (row_is w.row a.bytes),
      (txn_formed R w 1 a.body_entry a.body_block a.body_slot nothing u nothing_is, tt),
    )

delete_formed : (sh : Shape) (R : List Record) (w : RowBody) → AreAllowed sh R → DeleteAllowed sh R w → NewFormed w.parts
delete_formed sh R w h (deletes_plain a) =
    let u = current_there sh R w.undo.block h a.change.change.undo.current in
    subst NewFormed (sym a.parts) (txn_formed R w 0 a.entry a.block a.slot nothing u nothing_is, tt)
delete_formed sh R w h (deletes_migrated a) =
    let u = current_there sh R w.undo.block h a.change.change.undo.current in
    subst NewFormed (sym a.parts) (
      txn_formed R w 0 a.head_entry a.head_block a.head_slot nothing u nothing_is,
      (txn_formed R w 1 a.body_entry a.body_block a.body_slot nothing u nothing_is, tt),
    )

move_kind_formed : (sh : Shape) (R : List Record) (m : MoveRecord) → AreAllowed sh R → MoveAllowed sh R m → NewFormed m.parts
move_kind_formed sh R m h (moves_plain a) =
    let u = current_there sh R m.undo.block h a.move.undo.current in
    let bytes = (image R a.block a.slot).bytes in
    subst NewFormed (sym a.parts) (
      move_formed R m 0 a.block a.slot nothing u nothing_is,
      (move_formed R m 1 a.target (next_slot R a.target) (plain_row m.row bytes) u (row_is m.row bytes), tt),
    )
move_kind_formed sh R m h (moves_to_body a) =
    let u = current_there sh R m.undo.block h a.move.undo.current in
    let bytes = (image R a.body_block a.body_slot).bytes in
    subst NewFormed (sym a.parts) (
      move_formed R m 0 a.head_block a.head_slot nothing u nothing_is,
      (move_formed R m 1 a.body_block a.body_slot (plain_row m.row bytes) u (row_is m.row bytes), tt),
    )
move_kind_formed sh R m h (moves_migrated a) =
    let u = current_there sh R m.undo.block h a.move.undo.current in
    let bytes = (image R a.body_block a.body_slot).bytes in
    subst NewFormed (sym a.parts) (
      move_formed R m 0 a.head_block a.head_slot nothing u nothing_is,
      (
        move_formed R m 1 a.body_block a.body_slot nothing u nothing_is,
        (move_formed R m 2 a.target (next_slot R a.target) (plain_row m.row bytes) u (row_is m.row bytes), tt),
      ),
    )

abbrev EffectFormed : Effect → Type 0
EffectFormed (Adds st) = NewFormed st.parts
EffectFormed _ = Unit {0}

kind_formed : (sh : Shape) (R : List Record) (r : Record) → AreAllowed sh R → ((b k : ℕ) → HasSlotForm (image R b k)) → IsKindAllowed sh R r → EffectFormed (effect_of r)
kind_formed sh R (Insert w) h i a = insert_formed sh R w h a
kind_formed sh R (Update w) h i a = update_formed sh R w h i a
kind_formed sh R (Migrate w) h i a = migrate_formed sh R w h a
kind_formed sh R (Return w) h i a = return_formed sh R w h a
kind_formed sh R (Delete w) h i a = delete_formed sh R w h a
kind_formed sh R (Move m) h i a = move_kind_formed sh R m h a
kind_formed sh R _ h i a = tt

-- images

abbrev pub FormFact : ℕ → Slot → Type 0
FormFact b i = HasSlotForm i

form_kept : IsKept FormFact
form_kept = record { fresh = λ b. record { undo = tt; link = tt; len = refl; room = refl }; cleaned = λ b cs i h. clean_form i (number_of_writer cs i.writer) h }

form_puts : (sh : Shape) → Puts sh FormFact
form_puts sh R r st h e w = subst EffectFormed e (kind_formed sh R r h.0 w.images h.1.kind)

-- what an allowed record puts into slots, and what it takes back
pub effect_formed : (sh : Shape) (R : List Record) (r : Record) (e : Effect) → AreAllowed sh (r ∷ R) → effect_of r ≡ e → EffectPuts FormFact e
effect_formed sh R r e h f = effect_puts sh FormFact R r e (form_puts sh) h f (all_have sh FormFact form_kept (form_puts sh) R h.0)

-- what it keeps of undo

held_formed : (st : Step) (ps : List RowPart) → PlaceIsThere st.previous → Every (λ (p : RowPart). HasSlotForm p.old) ps → AllByRecursion HasPartForm (map as_kept (held_by st ps))
held_formed st [] p h = tt
held_formed st (x ∷ ps) p h = (record { previous = p; old = h.0 }, held_formed st ps p h.1)

place_there : (o : Option UndoAddr) → ((a : UndoAddr) → o ≡ Some a → 0 < a.block) → PlaceIsThere (place_of_undo o)
place_there None h = tt
place_there (Some a) h = h a refl

last_there : (sh : Shape) (R : List Record) (t : ℕ) (a : UndoAddr) → LEAST_UNDO_BLOCKS ≤ sh.undo → AreAllowed sh R → last_undo R t ≡ Some a → 0 < a.block
last_there sh R t a l h e = go (newest_of (standing R) t) refl e
  where
    go : (o : Option Step) → newest_of (standing R) t ≡ o → undo_of_step o ≡ Some a → 0 < a.block
    go None f x = absurd (let y : ◌≡◌ {A = Option UndoAddr} None (Some a) = x in cc)
    go (Some st) f x =
        let same : st.undo ≡ a = cc in
        let from = (newest_has (InRing sh) (standing R) t st f (in_ring sh R l h)).0 in
        subst (λ (y : UndoAddr). 0 < y.block) same (omega (arith, from))

abbrev Previous : Effect → Type 0
Previous (Adds st) = PlaceIsThere st.previous
Previous _ = Unit {0}

row_previous : (sh : Shape) (R : List Record) (w : RowBody) → LEAST_UNDO_BLOCKS ≤ sh.undo → AreAllowed sh R → MayChange R w → PlaceIsThere w.previous
row_previous sh R w l h c = subst PlaceIsThere (sym c.previous) (place_there (last_undo R w.txn) (λ a e. last_there sh R w.txn a l h e))

kind_previous : (sh : Shape) (R : List Record) (r : Record) → LEAST_UNDO_BLOCKS ≤ sh.undo → AreAllowed sh R → IsKindAllowed sh R r → Previous (effect_of r)
kind_previous sh R (Insert w) l h a = row_previous sh R w l h a.change
kind_previous sh R (Update w) l h a = row_previous sh R w l h a.change.change
kind_previous sh R (Migrate w) l h (migrates_plain a) = row_previous sh R w l h a.change.change
kind_previous sh R (Migrate w) l h (migrates_again a) = row_previous sh R w l h a.change.change
kind_previous sh R (Return w) l h a = row_previous sh R w l h a.change.change
kind_previous sh R (Delete w) l h (deletes_plain a) = row_previous sh R w l h a.change.change
kind_previous sh R (Delete w) l h (deletes_migrated a) = row_previous sh R w l h a.change.change
kind_previous sh R (Move m) l h a = tt
kind_previous sh R _ l h a = tt

pub parts_formed : (sh : Shape) (R : List Record) (r : Record) (st : Step) → LEAST_UNDO_BLOCKS ≤ sh.undo → AreAllowed sh (r ∷ R) → effect_of r ≡ Adds st → AllByRecursion HasPartForm (map as_kept (held_by st st.parts))
parts_formed sh R r st l h e = held_formed st st.parts (subst Previous e (kind_previous sh R r l h.0 h.1.kind)) (effect_formed sh R r (Adds st) h e).1
