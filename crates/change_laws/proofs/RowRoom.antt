-- What a row's slots hold: nothing in the slot that a new row takes, at most a longest row in any.
use Rattle.std.proofs.Common.{◌≡◌, ℕ, zero, suc, ◌+◌, ◌≤◌, true, false, List, [], ◌∷◌, length, Option, Some, None, refl, ap, arith}
use Rattle.seg_words.proofs.Lemmas.{and_parts}
use Rattle.seg_words.specs.Types.{Shape, Rowid, Slot, number_of_writer, as_told, is_empty, writer_has_ended, BLOCK_ROOM, LONGEST_ROW, UNDO_PART_SIZE}
use Rattle.redo_model.specs.Records.{Record, Insert, Update, Migrate, Return, Delete, Move, RowPart}
use Rattle.redo_model.specs.Model.{Step, row_step, move_step, ended_in, image, next_slot, AreAllowed}
use Rattle.redo_laws.proofs.allowed.AllKinds.{shape_of}
use Rattle.redo_laws.proofs.allowed.Shapes.{AllPut, target_reusable}
use Rattle.redo_laws.proofs.room.RoomLaw.{blocks_have_room}
use Rattle.redo_laws.proofs.space.Places.{segments}
use Rattle.redo_laws.proofs.steps.ImageFacts.{IsKept, NewHave, Puts, all_have}
use Rattle.redo_laws.proofs.steps.NewImages.{of_step}

-- an Empty slot has no bytes

abbrev NoBytes : ℕ → Slot → Type 0
NoBytes b i = is_empty i.kind ≡ true → i.bytes ≡ []

told_bare : (b : ℕ) (s : Slot) (o : Option ℕ) → NoBytes b s → NoBytes b (as_told s o)
told_bare b s None h = h
told_bare b s (Some zero) h = h
told_bare b s (Some (suc c)) h = h

bare_kept : IsKept NoBytes
bare_kept = record { fresh = λ b e. refl; cleaned = λ b cs i h. told_bare b i (number_of_writer cs i.writer) h }

put_bare : (R : List Record) (st : Step) (i : ℕ) (ps : List RowPart) → AllPut R st i ps → NewHave NoBytes ps
put_bare R st i [] h = tt
put_bare R st i (p ∷ ps) h = (h.0.none, put_bare R st (suc i) ps h.1)

bare_puts : (sh : Shape) → Puts sh NoBytes
bare_puts sh R (Insert w) st h e a = of_step NoBytes (row_step w false) st e (put_bare R (row_step w false) 0 w.parts (shape_of sh R (Insert w) (segments sh R h.0) h.1.kind).puts)
bare_puts sh R (Update w) st h e a = of_step NoBytes (row_step w false) st e (put_bare R (row_step w false) 0 w.parts (shape_of sh R (Update w) (segments sh R h.0) h.1.kind).shape.puts)
bare_puts sh R (Migrate w) st h e a = of_step NoBytes (row_step w false) st e (put_bare R (row_step w false) 0 w.parts (shape_of sh R (Migrate w) (segments sh R h.0) h.1.kind).shape.puts)
bare_puts sh R (Return w) st h e a = of_step NoBytes (row_step w false) st e (put_bare R (row_step w false) 0 w.parts (shape_of sh R (Return w) (segments sh R h.0) h.1.kind).shape.puts)
bare_puts sh R (Delete w) st h e a = of_step NoBytes (row_step w true) st e (put_bare R (row_step w true) 0 w.parts (shape_of sh R (Delete w) (segments sh R h.0) h.1.kind).shape.puts)
bare_puts sh R (Move m) st h e a = of_step NoBytes (move_step m) st e (put_bare R (move_step m) 0 m.parts (shape_of sh R (Move m) (segments sh R h.0) h.1.kind).shape.puts)
bare_puts sh R _ st h e a = absurd cc

-- the slot that a new row takes has no bytes, and any slot has at most 1,800

pub target_bare : (sh : Shape) (R : List Record) (b : ℕ) → AreAllowed sh R → length (image R b (next_slot R b)).bytes ≡ 0
target_bare sh R b h = ap (λ (xs : List ℕ). length xs)
    ((all_have sh NoBytes bare_kept (bare_puts sh) R h).images b (next_slot R b)
    (and_parts (is_empty (image R b (next_slot R b)).kind) (writer_has_ended (ended_in R) (image R b (next_slot R b)).writer) (target_reusable R b)).0)

pub row_short : (sh : Shape) (R : List Record) (p : Rowid) → AreAllowed sh R → length (image R p.dba p.slot).bytes ≤ LONGEST_ROW
row_short sh R p h = (blocks_have_room sh R p.dba h).rows p.slot

pub one_small : (sh : Shape) (R : List Record) (p : Rowid) → AreAllowed sh R → (UNDO_PART_SIZE + length (image R p.dba p.slot).bytes) + 0 ≤ BLOCK_ROOM
one_small sh R p h = let x = row_short sh R p h in omega (arith, x)

pub two_small : (sh : Shape) (R : List Record) (p q : Rowid) → AreAllowed sh R → (UNDO_PART_SIZE + length (image R p.dba p.slot).bytes) + ((UNDO_PART_SIZE + length (image R q.dba q.slot).bytes) + 0) ≤ BLOCK_ROOM
two_small sh R p q h = let x = row_short sh R p h in let y = row_short sh R q h in omega (arith, x, y)

pub three_small : (sh : Shape) (R : List Record) (p q : Rowid) (b : ℕ) → AreAllowed sh R
    → (UNDO_PART_SIZE + length (image R p.dba p.slot).bytes) + ((UNDO_PART_SIZE + length (image R q.dba q.slot).bytes) + ((UNDO_PART_SIZE + length (image R b (next_slot R b)).bytes) + 0)) ≤ BLOCK_ROOM
three_small sh R p q b h = let x = row_short sh R p h in let y = row_short sh R q h in let z = target_bare sh R b h in omega (arith, x, y, z)
