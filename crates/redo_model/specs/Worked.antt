-- Small runs as lists of records, newest first, in a store of 64 blocks with extents of 8 and 2 undo blocks: undo blocks 37
-- and 38, extents from 39, 47 and 55 on; the first table's data blocks are 43 to 46, then 48 to 54.
use Rattle.std.specs.Prelude.{ℕ, true, List, [], ◌∷◌, length, Option, Some, None, replicate}
use Rattle.seg_words.specs.Types.{Class as BlockClass, Fs1, Shape, Row, Head, Body, Empty, Writer, By, At, UndoAddr, Slot, UndoPlace, new_slot}
use Rattle.redo_model.specs.Records.{Record, Table, Movement, Extend, FormatBlock, Class, Advance, Lower, Begin, Reuse, Insert, Update, Migrate, Return, Delete, Commit, Back, Ended, Move, Clean, RowPart, RowBody}
use Rattle.redo_model.specs.AllowedRows.{at_place}

abbrev pub small : Shape
small = record { blocks = 64; extent = 8; undo = 2 }

-- part n of the first use of undo block 37
abbrev pub undo_at : ℕ → UndoAddr
undo_at n = record { block = 37; seq = 1; nth = n }

abbrev pub place_at : ℕ → Option UndoPlace
place_at n = Some (record { block = 37; nth = n })

abbrev pub letters : ℕ → ℕ → List ℕ
letters n letter = replicate n letter

-- images: the part of undo behind each stands at place n

abbrev pub row_by : Writer → ℕ → ℕ → List ℕ → ℕ → Slot
row_by w n row bytes room = record { kind = Row; writer = w; undo = Some (undo_at n); row = row; link = None; bytes = bytes; room = room }

abbrev pub empty_by : Writer → ℕ → ℕ → Slot
empty_by w n room = record { kind = Empty; writer = w; undo = Some (undo_at n); row = 0; link = None; bytes = []; room = room }

abbrev pub head_by : Writer → ℕ → ℕ → ℕ → ℕ → ℕ → Slot
head_by w n row block slot room = record { kind = Head; writer = w; undo = Some (undo_at n); row = row; link = Some (at_place block slot); bytes = []; room = room }

abbrev pub body_by : Writer → ℕ → ℕ → ℕ → ℕ → List ℕ → ℕ → Slot
body_by w n row block slot bytes room = record { kind = Body; writer = w; undo = Some (undo_at n); row = row; link = Some (at_place block slot); bytes = bytes; room = room }

abbrev pub part : ℕ → ℕ → Option ℕ → Slot → Slot → RowPart
part b k entry old new = record { dba = b; slot = k; entry = entry; new = new; old = old }

-- records of table 1 in its first extents

abbrev pub table_t : ℕ → Record
table_t pctfree = Table (record { obj = 1; header = 42; pctfree = pctfree; name = 116 ∷ [] })

abbrev pub movement_on : Record
movement_on = Movement (record { obj = 1; header = 42; on = true })

abbrev pub extend_by : ℕ → Record
extend_by x = Extend (record { obj = 1; header = 42; index = x; extent = x; l2 = 40; l3 = 41 })

abbrev pub advance_4 : Record
advance_4 = Advance (record { obj = 1; header = 42; low = 0; high = 4 })

abbrev pub format_block : ℕ → Record
format_block b = FormatBlock (record { obj = 1; dba = b; l2 = 40; l3 = 41; index = 0; best_of_l1 = 5; best_of_l2 = 5 })

abbrev pub class_to : ℕ → BlockClass → ℕ → Record
class_to b c best = Class (record { obj = 1; dba = b; class = c; l2 = 40; l3 = 41; index = 0; best_of_l1 = best; best_of_l2 = best })

abbrev pub begin : ℕ → ℕ → Record
begin t entry = Begin (record { txn = t; session = 1; entry = entry; control = 0 })

abbrev pub commit : ℕ → ℕ → ℕ → Record
commit t entry number = Commit (record { txn = t; number = number; entry = entry })

abbrev pub reuse_37 : Record
reuse_37 = Reuse (record { block = 37; sequence = 1 })

abbrev pub clean : ℕ → ℕ → ℕ → Record
clean b t number = Clean (record { dba = b; ended = (t, number) ∷ [] })

-- what transaction t, at this entry of its table, does to a row: its undo begins at place n, that of its record before at m
abbrev pub change : ℕ → ℕ → ℕ → ℕ → Option UndoPlace → List RowPart → RowBody
change t entry row n m parts = record { txn = t; entry = entry; obj = 1; row = row; undo = undo_at n; previous = m; parts = parts }

-- an insert into slot k of block b, of which the list entry of the transaction has the same number
abbrev pub insert : ℕ → ℕ → ℕ → ℕ → ℕ → ℕ → ℕ → Option UndoPlace → List ℕ → Record
insert t entry at_entry row b k n m bytes = Insert (change t entry row n m (part b k (Some at_entry) new_slot (row_by (By t) n row bytes (length bytes)) ∷ []))

abbrev pub hello : List ℕ
hello = 104 ∷ 101 ∷ 108 ∷ 108 ∷ 111 ∷ []

-- A row is inserted and committed: a table with PCTFREE 10, one row, its commit and the cleaning.
abbrev pub nine : List Record
nine =
    clean 43 1 1
    ∷ commit 1 0 1
    ∷ insert 1 0 0 1 43 0 0 None hello
    ∷ reuse_37
    ∷ begin 1 0
    ∷ format_block 43
    ∷ advance_4
    ∷ extend_by 0
    ∷ table_t 10
    ∷ []

-- Three rows in block 43, committed and cleaned: 100, 1,800 and 1,790 letters, PCTFREE 0, row movement on.
abbrev pub three : List Record
three =
    class_to 43 Fs1 2
    ∷ clean 43 1 1
    ∷ commit 1 0 1
    ∷ insert 1 0 0 3 43 2 2 (place_at 1) (letters 1790 122)
    ∷ insert 1 0 0 2 43 1 1 (place_at 0) (letters 1800 121)
    ∷ insert 1 0 0 1 43 0 0 None (letters 100 120)
    ∷ reuse_37
    ∷ begin 1 0
    ∷ format_block 43
    ∷ advance_4
    ∷ movement_on
    ∷ extend_by 0
    ∷ table_t 0
    ∷ []

abbrev pub migration : RowBody
migration = change 2 1 1 3 None (
    part 43 0 (Some 0) (row_by (At 1) 0 1 (letters 100 120) 100) (head_by (By 2) 3 1 44 0 100)
    ∷ part 44 0 (Some 0) new_slot (body_by (By 2) 4 1 43 0 (letters 400 119) 400)
    ∷ []
    )

-- row 1 outgrows its block
abbrev pub migrated : List Record
migrated = Migrate migration ∷ begin 2 1 ∷ format_block 44 ∷ three

-- it is taken back
abbrev pub backed : List Record
backed =
    Ended (record { txn = 2; entry = 1 })
    ∷ Back (record {
      txn = 2;
      entry = 1;
      obj = 1;
      row = 1;
      undo = undo_at 3;
      previous = None;
      parts = record { dba = 43; slot = 0; entry = Some 0; new = row_by (At 1) 0 1 (letters 100 120) 100 }
          ∷ record { dba = 44; slot = 0; entry = Some 0; new = new_slot }
          ∷ [];
      last = None;
    })
    ∷ migrated

-- or committed
abbrev pub migrated_for_good : List Record
migrated_for_good = commit 2 1 2 ∷ migrated

abbrev pub body_image : Slot
body_image = body_by (By 2) 4 1 43 0 (letters 400 119) 400

-- an update in place of the migrated row, which is rolled back
abbrev pub updated : List Record
updated =
    Update (change 3 2 1 5 None (part 44 0 (Some 0) body_image (body_by (By 3) 5 1 43 0 (letters 500 118) 500) ∷ []))
    ∷ begin 3 2
    ∷ migrated_for_good

abbrev pub restored_body : List Record
restored_body =
    Ended (record { txn = 3; entry = 2 })
    ∷ Back (record {
      txn = 3;
      entry = 2;
      obj = 1;
      row = 1;
      undo = undo_at 5;
      previous = None;
      parts = record { dba = 44; slot = 0; entry = Some 0; new = body_image } ∷ [];
      last = None;
    })
    ∷ updated

-- row 2 is deleted, and rows 4 and 5 leave little room beside the body of row 1
abbrev pub filled : List Record
filled =
    commit 4 3 3
    ∷ insert 4 3 0 5 44 2 8 (place_at 7) (letters 1800 98)
    ∷ insert 4 3 0 4 44 1 7 (place_at 6) (letters 1500 97)
    ∷ Delete (change 4 3 2 6 None (part 43 1 (Some 0) (row_by (At 1) 1 2 (letters 1800 121) 1800) (empty_by (By 4) 6 1800) ∷ []))
    ∷ begin 4 3
    ∷ restored_body

-- row 1 returns to its head's slot
abbrev pub returned : List Record
returned =
    commit 5 4 4
    ∷ Return (change 5 4 1 9 None (
    part 43 0 (Some 0) (head_by (By 2) 3 1 44 0 100) (row_by (By 5) 9 1 (letters 615 117) 615)
    ∷ part 44 0 (Some 0) body_image (empty_by (By 5) 10 400)
    ∷ []
    ))
    ∷ begin 5 4
    ∷ filled

-- part n of the first use of undo block 38
abbrev pub next_undo_at : ℕ → UndoAddr
next_undo_at n = record { block = 38; seq = 1; nth = n }

-- the place from which row 4 moves, and the row where it moves to
abbrev pub left_behind : Slot
left_behind = record { kind = Empty; writer = At 5; undo = Some (next_undo_at 0); row = 0; link = None; bytes = []; room = 0 }

abbrev pub moved_to : Slot
moved_to = record { kind = Row; writer = At 5; undo = Some (next_undo_at 1); row = 4; link = None; bytes = letters 1500 97; room = 1500 }

-- Row 4 moves from block 44 to block 43, into the slot that row 2 left. Its parts don't fit in undo block 37 any more.
abbrev pub moved : List Record
moved =
    Move (record {
      obj = 1;
      row = 4;
      undo = next_undo_at 0;
      number = 5;
      parts = part 44 1 None (row_by (By 4) 7 4 (letters 1500 97) 1500) left_behind ∷ part 43 1 None (empty_by (By 4) 6 1800) moved_to ∷ [];
    })
    ∷ Reuse (record { block = 38; sequence = 1 })
    ∷ returned

-- the places that rows 5 and 3 leave: the part of undo behind the second one is the first one of the second use of undo
-- block 37
abbrev pub row_5_gone : Slot
row_5_gone = record { kind = Empty; writer = By 6; undo = Some (next_undo_at 2); row = 0; link = None; bytes = []; room = 1800 }

abbrev pub again_at : UndoAddr
again_at = record { block = 37; seq = 2; nth = 0 }

abbrev pub row_3_gone : Slot
row_3_gone = record { kind = Empty; writer = By 6; undo = Some again_at; row = 0; link = None; bytes = []; room = 1790 }

-- row 5 is deleted
abbrev pub half_deleted : List Record
half_deleted =
    Delete (record {
      txn = 6;
      entry = 5;
      obj = 1;
      row = 5;
      undo = next_undo_at 2;
      previous = None;
      parts = part 44 2 (Some 0) (row_by (By 4) 8 5 (letters 1800 98) 1800) row_5_gone ∷ [];
    })
    ∷ begin 6 5
    ∷ moved

-- And row 3. Its part doesn't fit in undo block 38, so that block 37 is taken into use again: its parts are lost.
abbrev pub reused : List Record
reused =
    Delete (record {
      txn = 6;
      entry = 5;
      obj = 1;
      row = 3;
      undo = again_at;
      previous = Some (record { block = 38; nth = 2 });
      parts = part 43 2 (Some 0) (row_by (At 1) 2 3 (letters 1790 122) 1790) row_3_gone ∷ [];
    })
    ∷ Reuse (record { block = 37; sequence = 2 })
    ∷ half_deleted

-- all blocks are formatted, a second extent is taken, and released again
abbrev pub lowered : List Record
lowered =
    Lower (record { obj = 1; header = 42; lowering = 1; kept = 1; low = 0; high = 4; l2 = Some 40 ∷ None ∷ None ∷ []; l3 = 41; bests = 5 ∷ 0 ∷ 0 ∷ []; released = 1 ∷ [] })
    ∷ extend_by 1
    ∷ format_block 46
    ∷ format_block 45
    ∷ moved
