-- A page that says what the model says of a row block, or of an undo block, has a spelling.
use Rattle.std.proofs.Common.{◌≡◌, ℕ, suc, ◌<◌, ◌≤◌, ◌^◌, true, List, length, map, Option, Some, None, refl, sym, subst, arith}
use Rattle.seg_words.proofs.Lemmas.{All-from_recursion}
use Rattle.seg_words.specs.Types.{AllByRecursion, Shape, is_shape, Slot, UndoAddr, Rowid, Block, new_slot, new_entry, BLOCK_ROOM}
use Rattle.page_bytes.specs.Types.{UndoFits, LinkFits, IsSlot, UndoIsThere, LinkIsThere, HasSlotForm, IsListEntry}
use Rattle.row_block.specs.RowPage.{RowPage, IsHeld}
use Rattle.row_block.specs.Spelling.{IsRowPage}
use Rattle.undo_block.specs.UndoPage.{UndoPage, IsUndoPage, IsPart}
use Rattle.undo_block.specs.declared.part.Part.{Part}
use Rattle.undo_block.specs.Parts.{used_by}
use Rattle.redo_model.specs.Records.{Record}
use Rattle.redo_model.specs.Model.{undo_held, block_of, slots_of, entries_of, image, AreAllowed}
use Rattle.redo_model.proofs.Bridge.{image_is, count_is, entry_is, entry_count_is}
use Rattle.redo_laws.specs.Sound.{BlockIsSound}
use Rattle.redo_laws.proofs.spelled.SoundLaw.{blocks_are_sound}
use Rattle.redo_laws.proofs.room.RoomLaw.{blocks_have_room}
use Rattle.page_laws.proofs.UndoLaw.{slot_is, undo_pages_are_spelled}
use Rattle.page_set.specs.Says.{as_kept}
use Rattle.page_says.proofs.Fields.{each_all}

-- a slot that has a spelling is of its form

undo_there : (o : Option UndoAddr) → UndoFits o → UndoIsThere o
undo_there None h = tt
undo_there (Some a) h = h.0

link_there : (o : Option Rowid) → LinkFits o → LinkIsThere o
link_there None h = tt
link_there (Some r) h = h.0

slot_form : (s : Slot) → IsSlot s → HasSlotForm s
slot_form s h = record { undo = undo_there s.undo h.undo; link = link_there s.link h.link; len = h.len; room = h.room }

block_held : (sh : Shape) (R : List Record) (b : ℕ) → BlockIsSound R b → AreAllowed sh R → IsHeld (block_of R b)
block_held sh R b s h =
    let r = blocks_have_room sh R b h in
    let slots = r.slots in
    let least = r.entries_from in
    let most = r.entries_to in
    let m = count_is R b in
    let n = entry_count_is R b in
    record {
      slots = omega (arith, m, slots);
      least = omega (arith, n, least);
      entries = omega (arith, n, most);
      rooms = All-from_recursion (λ (i : Slot). length i.bytes ≤ i.room) (slots_of R b)
          (each_all (λ (i : Slot). length i.bytes ≤ i.room) (slots_of R b) new_slot (λ k. subst (λ (i : Slot). length i.bytes ≤ i.room) (sym (image_is R b k)) (s.slots k).within));
      forms = All-from_recursion HasSlotForm (slots_of R b) (each_all HasSlotForm (slots_of R b) new_slot (λ k. subst HasSlotForm (sym (image_is R b k)) (slot_form (image R b k) (slot_is (image R b k) (s.slots k)))));
      size = r.when_more_end (λ t. true) (λ t e. refl);
    }

block_slots : (R : List Record) (b : ℕ) → BlockIsSound R b → AllByRecursion IsSlot (slots_of R b)
block_slots R b s = each_all IsSlot (slots_of R b) new_slot (λ k. subst IsSlot (sym (image_is R b k)) (slot_is (image R b k) (s.slots k)))

block_entries : (R : List Record) (b : ℕ) → BlockIsSound R b → AllByRecursion IsListEntry (entries_of R b)
block_entries R b s = each_all IsListEntry (entries_of R b) new_entry (λ i. subst IsListEntry (sym (entry_is R b i)) (record { txn = s.txns i; number = (let n = s.numbers i in omega (arith, n)) }))

pub rows_spelled : (sh : Shape) (R : List Record) (b : ℕ) (x : RowPage) → is_shape sh ≡ true → suc (length R) < 2 ^ 64 → AreAllowed sh R → x.dba < 2 ^ 32 → x.lsn < 2 ^ 64 → x.block ≡ block_of R b → IsRowPage x
rows_spelled sh R b x s l h dba lsn is =
    let k = blocks_are_sound sh R b s l h in
    record {
      dba = dba;
      lsn = lsn;
      held = subst IsHeld (sym is) (block_held sh R b k h);
      entries = subst (λ (y : Block). AllByRecursion IsListEntry y.entries) (sym is) (block_entries R b k);
      slots = subst (λ (y : Block). AllByRecursion IsSlot y.slots) (sym is) (block_slots R b k);
    }

pub undo_spelled : (sh : Shape) (R : List Record) (b : ℕ) (u : UndoPage) → is_shape sh ≡ true → suc (length R) < 2 ^ 64 → AreAllowed sh R → u.dba < 2 ^ 32 → u.lsn < 2 ^ 64 → u.sequence < 2 ^ 64 → u.parts ≡ map as_kept (undo_held R b) → IsUndoPage u
undo_spelled sh R b u s l h dba lsn sequence is =
    let k = undo_pages_are_spelled sh R b s l h in
    record {
      dba = dba;
      lsn = lsn;
      sequence = sequence;
      parts = subst (AllByRecursion IsPart) (sym is) k.parts;
      used = subst (λ (ps : List Part). used_by ps ≤ BLOCK_ROOM) (sym is) k.used;
    }
