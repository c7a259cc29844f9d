-- A change may be made wherever its undo goes.
use Rattle.std.proofs.Common.{◌≡◌, ℕ, zero, suc, ◌+◌, ◌≤◌, Bool, true, false, cond, List, [], ◌∷◌, length, find, MatchOption, option_map, is_none, Option, Some, None, refl, sym, ap, ap₂, arith, true≢false}
use Rattle.seg_words.proofs.Lemmas.{and_parts}
use Rattle.seg_words.specs.Types.{Shape, Rowid, Slot, Block, Writer, By, At, UndoAddr, number_of_writer, as_told, is_empty, writer_has_ended, entry_size, takes_beside, fits_beside, BLOCK_ROOM, LONGEST_ROW, UNDO_PART_SIZE}
use Rattle.redo_model.specs.Records.{Record, Insert, Update, Migrate, Return, Delete, Move, Reuse, RowPart, ReuseRecord}
use Rattle.redo_model.specs.Model.{Step, row_step, move_step, ended_in, is_active, entry_of, image, block_of, standing, newest_on, holds_row, IsTable, IsRowBlock, pctfree_of, StatesUndo, MayChange, MayChangeRow, IsFreeFor, InsertAllowed, UpdateAllowed, MigrateAllowed, ReturnAllowed, DeleteAllowed, Enters, IsRowSize, number_or_zero, next_slot, AreAllowed}
use Rattle.redo_model.specs.AllowedRows.{migrates_plain, migrates_again, deletes_plain, deletes_migrated}
use Rattle.redo_laws.proofs.allowed.AllKinds.{shape_of}
use Rattle.redo_laws.proofs.allowed.Shapes.{AllPut, target_reusable}
use Rattle.redo_laws.proofs.numbers.TxnTable.{txn_table}
use Rattle.redo_laws.proofs.room.RoomLaw.{blocks_have_room}
use Rattle.redo_laws.proofs.space.Places.{segments}
use Rattle.redo_laws.proofs.steps.ImageFacts.{IsKept, NewHave, Puts, all_have}
use Rattle.redo_laws.proofs.steps.NewImages.{of_step}
use Rattle.change_laws.proofs.RowRoom.{one_small, two_small, three_small}
use Rattle.change_laws.specs.Drafts.{RowKind, Updates, Migrates, Returns, Deletes, Change, Fill, entry_by, parts_of, fills_size, body_at, Stand, Whole, Apart, holder_of, free_place, insert_of, update_of, migrate_fills, migrate_of, return_of, delete_fills, delete_of}
use Rattle.change_laws.specs.Ready.{lacks_entry, first_lacking, blocks_at, Path, InPlace, ToHead, ToOther, fits_at, path_past, path_of, StandsAt, MayInsert, MayWrite, MayUpdate, MayReturn, MayMigrate, MayDelete, updated_blocks, UpdateGoes, UpdatesGo}
use Rattle.change_laws.specs.Allowed.{InsertsAreReady, UpdatesAreReady, MigratesAreReady, ReturnsAreReady, DeletesAreReady}

-- entries

some_is : (o : Option ℕ) → is_none o ≡ false → o ≡ Some (number_or_zero o)
some_is None e = absurd (true≢false e)
some_is (Some i) e = refl

pub entered : (sh : Shape) (R : List Record) (t : ℕ) → AreAllowed sh R → is_active R t ≡ true → entry_of R t ≡ Some (number_or_zero (entry_of R t))
entered sh R t h on = let x = (txn_table sh R h).entered t ((txn_table sh R h).begun t on) in go (entry_of R t) x.0 x.1
  where
    go : (o : Option ℕ) (i : ℕ) → o ≡ Some i → o ≡ Some (number_or_zero o)
    go None i e = absurd (let z : ◌≡◌ {A = Option ℕ} None (Some i) = e in cc)
    go (Some j) i e = refl

had : (R : List Record) (t b : ℕ) → lacks_entry R (Some t) b ≡ false → Enters R t b (number_or_zero (entry_by R (Some t) b))
had R t b e = record { entry_is = some_is (entry_by R (Some t) b) e }

taken_had : (f : ℕ → Bool) (pct : ℕ) (x : Block) (len : ℕ) (o : Option ℕ) → takes_beside f pct x len (option_map (entry_size x) o) ≡ true → is_none o ≡ false
taken_had f pct x len None e = absurd (true≢false (sym e))
taken_had f pct x len (Some i) e = refl

fits_had : (f : ℕ → Bool) (x : Block) (k len : ℕ) (o : Option ℕ) → fits_beside f x k len (option_map (entry_size x) o) ≡ true → is_none o ≡ false
fits_had f x k len None e = absurd (true≢false (sym e))
fits_had f x k len (Some i) e = refl

-- which way

abbrev in_place : (a b c : Bool) → Path → Bool
in_place a b c InPlace = a
in_place a b c ToHead = b
in_place a b c ToOther = c

in_not_head : InPlace ≡ ToHead → ⊥
in_not_head e = true≢false (ap (in_place true false false) e)

in_not_other : InPlace ≡ ToOther → ⊥
in_not_other e = true≢false (ap (in_place true false false) e)

head_not_other : ToHead ≡ ToOther → ⊥
head_not_other e = true≢false (ap (in_place false true false) e)

past_not_in : (R : List Record) (own : Option ℕ) (x : Stand) (len : ℕ) → path_past R own x len ≡ InPlace → ⊥
past_not_in R own (Whole p) len e = in_not_other (sym e)
past_not_in R own (Apart head body) len e = (elim (fits_at R own head len) as (λ v. cond v ToHead ToOther ≡ InPlace → ⊥) [ true ↦ λ z. in_not_head (sym z) | false ↦ λ z. in_not_other (sym z) ]) e

in_fits : (R : List Record) (own : Option ℕ) (x : Stand) (len : ℕ) → path_of R own x len ≡ InPlace → fits_at R own (holder_of x) len ≡ true
in_fits R own x len e =
    (elim (fits_at R own (holder_of x) len) as (λ v. cond v InPlace (path_past R own x len) ≡ InPlace → v ≡ true) [
      | true ↦ λ z. refl
      | false ↦ λ z. absurd (past_not_in R own x len z)
    ]) e

record HeadFits (R : List Record) (own : Option ℕ) (head body : Rowid) (len : ℕ) : Type 0 where
  body_full : fits_at R own body len ≡ false
  head_fits : fits_at R own head len ≡ true

head_cases : (u v : Bool) → cond u InPlace (cond v ToHead ToOther) ≡ ToHead → (u ≡ false) × (v ≡ true)
head_cases true v e = absurd (in_not_head e)
head_cases false true e = (refl, refl)
head_cases false false e = absurd (head_not_other (sym e))

to_head : (R : List Record) (own : Option ℕ) (head body : Rowid) (len : ℕ) → path_of R own (Apart head body) len ≡ ToHead → HeadFits R own head body len
to_head R own head body len e = let x = head_cases (fits_at R own body len) (fits_at R own head len) e in record { body_full = x.0; head_fits = x.1 }

other_whole : (u : Bool) → cond u InPlace ToOther ≡ ToOther → u ≡ false
other_whole true e = absurd (in_not_other e)
other_whole false e = refl

other_apart : (u v : Bool) → cond u InPlace (cond v ToHead ToOther) ≡ ToOther → (u ≡ false) × (v ≡ false)
other_apart true v e = absurd (in_not_other e)
other_apart false true e = absurd (head_not_other e)
other_apart false false e = (refl, refl)

-- the blocks that have entries

some_not_none : (b : ℕ) → ◌≡◌ {A = Option ℕ} (Some b) None → ⊥
some_not_none b e = cc

one_had : (u : Bool) (b : ℕ) (o : Option ℕ) → ◌≡◌ {A = Option ℕ} (cond u (Some b) o) None → (u ≡ false) × (o ≡ None)
one_had true b o e = absurd (some_not_none b e)
one_had false b o e = (refl, e)

record BothHad (R : List Record) (t : ℕ) (head body : Rowid) : Type 0 where
  head_had : lacks_entry R (Some t) head.dba ≡ false
  body_had : lacks_entry R (Some t) body.dba ≡ false

both_had : (R : List Record) (t : ℕ) (head body : Rowid) → first_lacking R (Some t) (blocks_at (Apart head body)) ≡ None → BothHad R t head body
both_had R t head body e =
    let x = one_had (lacks_entry R (Some t) body.dba) body.dba (find (λ b. lacks_entry R (Some t) b) (head.dba ∷ [])) e in
    let y = one_had (lacks_entry R (Some t) head.dba) head.dba (find (λ b. lacks_entry R (Some t) b) []) x.1 in
    record { head_had = y.0; body_had = x.0 }

-- what every change needs

may : (R : List Record) (t : ℕ) (a : UndoAddr) (c : Change) → IsTable R c.obj → is_active R t ≡ true → entry_of R t ≡ Some (number_or_zero (entry_of R t)) → StatesUndo R a (parts_of R t a 0 c.fills) → MayChange R (body_at R t a c)
may R t a c table on e u = record { table = table; active = on; entry = e; undo = u; previous = refl }

may_row : (R : List Record) (t o n : ℕ) (x : Stand) (a : UndoAddr) (k : RowKind) (fs : List Fill) → MayWrite R (Some t) o n x → entry_of R t ≡ Some (number_or_zero (entry_of R t)) → StatesUndo R a (parts_of R t a 0 fs)
    → MayChangeRow R (body_at R t a (record { kind = k; obj = o; row = n; fills = fs }))
may_row R t o n x a k fs m e u = record { change = may R t a (record { kind = k; obj = o; row = n; fills = fs }) m.table m.active e u; was = m.was; there = m.there; free = m.free }

-- after a Reuse

reuse_table : (R : List Record) (q : ReuseRecord) (o : ℕ) → IsTable R o → IsTable (Reuse q ∷ R) o
reuse_table R q o h = record { least = h.least; most = h.most }

reuse_block : (sh : Shape) (R : List Record) (q : ReuseRecord) (o b : ℕ) → IsRowBlock sh R o b → IsRowBlock sh (Reuse q ∷ R) o b
reuse_block sh R q o b h = record { here = h.here; formatted = h.formatted }

reuse_free : (R : List Record) (q : ReuseRecord) (t : ℕ) (o : Option Step) → MatchOption o (Unit {0}) (λ st. IsFreeFor R t st.by) → MatchOption o (Unit {0}) (λ st. IsFreeFor (Reuse q ∷ R) t st.by)
reuse_free R q t None h = tt
reuse_free R q t (Some st) h = go st.by h
  where
    go : (w : Writer) → IsFreeFor R t w → IsFreeFor (Reuse q ∷ R) t w
    go (By u) f = f
    go (At c) f = f

reuse_stands : (R : List Record) (q : ReuseRecord) (n : ℕ) (x : Stand) → StandsAt R n x → StandsAt (Reuse q ∷ R) n x
reuse_stands R q n (Whole p) h = record { kind = h.kind; row = h.row }
reuse_stands R q n (Apart head body) h = record { head_kind = h.head_kind; head_row = h.head_row; head_link = h.head_link; body_kind = h.body_kind; body_row = h.body_row; body_link = h.body_link }

reuse_write : (R : List Record) (q : ReuseRecord) (t o n : ℕ) (x : Stand) → MayWrite R (Some t) o n x → MayWrite (Reuse q ∷ R) (Some t) o n x
reuse_write R q t o n x m = record {
  active = m.active;
  table = reuse_table R q o m.table;
  was = m.was;
  there = m.there;
  free = reuse_free R q t (newest_on (standing R) n) m.free;
  stands = reuse_stands R q n x m.stands;
}

-- inserts

insert_kind : (sh : Shape) (R : List Record) (t o b : ℕ) (bytes : List ℕ) (a : UndoAddr) → entry_of R t ≡ Some (number_or_zero (entry_of R t)) → MayInsert sh R (Some t) o b bytes → StatesUndo R a (parts_of R t a 0 (insert_of R o b bytes).fills)
    → InsertAllowed sh R (body_at R t a (insert_of R o b bytes))
insert_kind sh R t o b bytes a e m u = record {
  change = may R t a (insert_of R o b bytes) m.table m.active e u;
  number = refl;
  bytes = bytes;
  size = m.size;
  block = b;
  here = m.here;
  takes = m.takes;
  entry = number_or_zero (entry_by R (Some t) b);
  enters = had R t b (taken_had (ended_in R) (pctfree_of R o) (block_of R b) (length bytes) (entry_by R (Some t) b) m.takes);
  parts = refl;
}

pub inserts_are_ready : InsertsAreReady
inserts_are_ready sh R t o b bytes l m =
    let e = entered sh R t l.allowed m.active in
    record {
      small = one_small sh R (free_place R b) l.allowed;
      now = λ a u. insert_kind sh R t o b bytes a e m u;
      after = λ q a u. insert_kind sh (Reuse q ∷ R) t o b bytes a e
          (record { active = m.active; table = reuse_table R q o m.table; here = reuse_block sh R q o b m.here; takes = m.takes; size = m.size }) u;
    }

-- updates

pub holds_at : (R : List Record) (n : ℕ) (x : Stand) → StandsAt R n x → (holds_row (image R (holder_of x).dba (holder_of x).slot).kind ≡ true) × ((image R (holder_of x).dba (holder_of x).slot).row ≡ n)
holds_at R n (Whole p) h = (ap holds_row h.kind, h.row)
holds_at R n (Apart head body) h = (ap holds_row h.body_kind, h.body_row)

update_kind : (sh : Shape) (R : List Record) (t o n : ℕ) (x : Stand) (bytes : List ℕ) (a : UndoAddr) → entry_of R t ≡ Some (number_or_zero (entry_of R t)) → MayUpdate R (Some t) o n x bytes → StatesUndo R a (parts_of R t a 0 (update_of R o n x bytes).fills)
    → UpdateAllowed sh R (body_at R t a (update_of R o n x bytes))
update_kind sh R t o n x bytes a e m u =
    let fits = in_fits R (Some t) x (length bytes) m.goes in
    let holds = holds_at R n x m.write.stands in
    record {
      change = may_row R t o n x a Updates (update_of R o n x bytes).fills m.write e u;
      bytes = bytes;
      size = m.size;
      block = (holder_of x).dba;
      slot = (holder_of x).slot;
      holds = holds.0;
      row = holds.1;
      fits = fits;
      entry = number_or_zero (entry_by R (Some t) (holder_of x).dba);
      enters = had R t (holder_of x).dba (fits_had (ended_in R) (block_of R (holder_of x).dba) (holder_of x).slot (length bytes) (entry_by R (Some t) (holder_of x).dba) fits);
      parts = refl;
    }

pub updates_are_ready : UpdatesAreReady
updates_are_ready sh R t o n x bytes l m =
    let e = entered sh R t l.allowed m.write.active in
    record {
      small = one_small sh R (holder_of x) l.allowed;
      now = λ a u. update_kind sh R t o n x bytes a e m u;
      after = λ q a u. update_kind sh (Reuse q ∷ R) t o n x bytes a e (record { write = reuse_write R q t o n x m.write; size = m.size; goes = after q x m.goes }) u;
    }
  where
    after : (q : ReuseRecord) (x : Stand) → path_of R (Some t) x (length bytes) ≡ InPlace → path_of (Reuse q ∷ R) (Some t) x (length bytes) ≡ InPlace
    after q (Whole p) g = g
    after q (Apart head body) g = g

-- returns

return_kind : (sh : Shape) (R : List Record) (t o n : ℕ) (head body : Rowid) (bytes : List ℕ) (a : UndoAddr) → entry_of R t ≡ Some (number_or_zero (entry_of R t)) → MayReturn R (Some t) o n head body bytes → StatesUndo R a (parts_of R t a 0 (return_of o n head body bytes).fills)
    → ReturnAllowed sh R (body_at R t a (return_of o n head body bytes))
return_kind sh R t o n head body bytes a e m u =
    let go = to_head R (Some t) head body (length bytes) m.goes in
    let both = both_had R t head body m.entries in
    record {
      change = may_row R t o n (Apart head body) a Returns (return_of o n head body bytes).fills m.write e u;
      bytes = bytes;
      size = m.size;
      head_block = head.dba;
      head_slot = head.slot;
      body_block = body.dba;
      body_slot = body.slot;
      migrated = m.write.stands;
      no_room = go.body_full;
      fits = go.head_fits;
      head_entry = number_or_zero (entry_by R (Some t) head.dba);
      head_enters = had R t head.dba both.head_had;
      body_entry = number_or_zero (entry_by R (Some t) body.dba);
      body_enters = had R t body.dba both.body_had;
      parts = refl;
    }

pub returns_are_ready : ReturnsAreReady
returns_are_ready sh R t o n head body bytes l m =
    let e = entered sh R t l.allowed m.write.active in
    record {
      small = two_small sh R head body l.allowed;
      now = λ a u. return_kind sh R t o n head body bytes a e m u;
      after = λ q a u. return_kind sh (Reuse q ∷ R) t o n head body bytes a e (record { write = reuse_write R q t o n (Apart head body) m.write; size = m.size; goes = m.goes; entries = m.entries }) u;
    }

-- migrations

migrate_kind : (sh : Shape) (R : List Record) (t o n : ℕ) (x : Stand) (b : ℕ) (bytes : List ℕ) (a : UndoAddr) → entry_of R t ≡ Some (number_or_zero (entry_of R t)) → MayMigrate sh R (Some t) o n x b bytes → StatesUndo R a (parts_of R t a 0 (migrate_of R o n x b bytes).fills)
    → MigrateAllowed sh R (body_at R t a (migrate_of R o n x b bytes))
migrate_kind sh R t o n (Whole p) b bytes a e m u = migrates_plain (record {
  change = may_row R t o n (Whole p) a Migrates (migrate_of R o n (Whole p) b bytes).fills m.write e u;
  bytes = bytes;
  size = m.size;
  block = p.dba;
  slot = p.slot;
  plain = m.write.stands;
  no_room = other_whole (fits_at R (Some t) p (length bytes)) m.goes;
  entry = number_or_zero (entry_by R (Some t) p.dba);
  enters = had R t p.dba (one_had (lacks_entry R (Some t) p.dba) p.dba None m.entries).0;
  target = b;
  target_entry = number_or_zero (entry_by R (Some t) b);
  target_allowed = record { here = m.here; takes = m.takes; enters = had R t b (taken_had (ended_in R) (pctfree_of R o) (block_of R b) (length bytes) (entry_by R (Some t) b) m.takes) };
  other = m.other;
  parts = refl;
})
migrate_kind sh R t o n (Apart head body) b bytes a e m u =
    let go = other_apart (fits_at R (Some t) body (length bytes)) (fits_at R (Some t) head (length bytes)) m.goes in
    let both = both_had R t head body m.entries in
    migrates_again (record {
      change = may_row R t o n (Apart head body) a Migrates (migrate_of R o n (Apart head body) b bytes).fills m.write e u;
      bytes = bytes;
      size = m.size;
      head_block = head.dba;
      head_slot = head.slot;
      body_block = body.dba;
      body_slot = body.slot;
      migrated = m.write.stands;
      no_room = go.0;
      no_room_at_head = go.1;
      head_entry = number_or_zero (entry_by R (Some t) head.dba);
      head_enters = had R t head.dba both.head_had;
      body_entry = number_or_zero (entry_by R (Some t) body.dba);
      body_enters = had R t body.dba both.body_had;
      target = b;
      target_entry = number_or_zero (entry_by R (Some t) b);
      target_allowed = record { here = m.here; takes = m.takes; enters = had R t b (taken_had (ended_in R) (pctfree_of R o) (block_of R b) (length bytes) (entry_by R (Some t) b) m.takes) };
      not_head = m.other.0;
      not_body = m.other.1;
      parts = refl;
    })

migrate_small : (sh : Shape) (R : List Record) (n : ℕ) (x : Stand) (b : ℕ) (bytes : List ℕ) → AreAllowed sh R → fills_size R (migrate_fills n x (free_place R b) bytes) ≤ BLOCK_ROOM
migrate_small sh R n (Whole p) b bytes h = two_small sh R p (free_place R b) h
migrate_small sh R n (Apart head body) b bytes h = three_small sh R head body b h

pub migrates_are_ready : MigratesAreReady
migrates_are_ready sh R t o n x b bytes l m =
    let e = entered sh R t l.allowed m.write.active in
    record {
      small = migrate_small sh R n x b bytes l.allowed;
      now = λ a u. migrate_kind sh R t o n x b bytes a e m u;
      after = λ q a u. migrate_kind sh (Reuse q ∷ R) t o n x b bytes a e (again q x m) u;
    }
  where
    again : (q : ReuseRecord) (x : Stand) → MayMigrate sh R (Some t) o n x b bytes → MayMigrate sh (Reuse q ∷ R) (Some t) o n x b bytes
    again q (Whole p) m = record { write = reuse_write R q t o n (Whole p) m.write; size = m.size; goes = m.goes; entries = m.entries; here = reuse_block sh R q o b m.here; takes = m.takes; other = m.other }
    again q (Apart head body) m = record { write = reuse_write R q t o n (Apart head body) m.write; size = m.size; goes = m.goes; entries = m.entries; here = reuse_block sh R q o b m.here; takes = m.takes; other = m.other }

-- deletions

delete_kind : (sh : Shape) (R : List Record) (t o n : ℕ) (x : Stand) (a : UndoAddr) → entry_of R t ≡ Some (number_or_zero (entry_of R t)) → MayDelete R (Some t) o n x → StatesUndo R a (parts_of R t a 0 (delete_of o n x).fills)
    → DeleteAllowed sh R (body_at R t a (delete_of o n x))
delete_kind sh R t o n (Whole p) a e m u = deletes_plain (record {
  change = may_row R t o n (Whole p) a Deletes (delete_of o n (Whole p)).fills m.write e u;
  block = p.dba;
  slot = p.slot;
  plain = m.write.stands;
  entry = number_or_zero (entry_by R (Some t) p.dba);
  enters = had R t p.dba (one_had (lacks_entry R (Some t) p.dba) p.dba None m.entries).0;
  parts = refl;
})
delete_kind sh R t o n (Apart head body) a e m u =
    let both = both_had R t head body m.entries in
    deletes_migrated (record {
      change = may_row R t o n (Apart head body) a Deletes (delete_of o n (Apart head body)).fills m.write e u;
      head_block = head.dba;
      head_slot = head.slot;
      body_block = body.dba;
      body_slot = body.slot;
      migrated = m.write.stands;
      head_entry = number_or_zero (entry_by R (Some t) head.dba);
      head_enters = had R t head.dba both.head_had;
      body_entry = number_or_zero (entry_by R (Some t) body.dba);
      body_enters = had R t body.dba both.body_had;
      parts = refl;
    })

delete_small : (sh : Shape) (R : List Record) (x : Stand) → AreAllowed sh R → fills_size R (delete_fills x) ≤ BLOCK_ROOM
delete_small sh R (Whole p) h = one_small sh R p h
delete_small sh R (Apart head body) h = two_small sh R head body h

pub deletes_are_ready : DeletesAreReady
deletes_are_ready sh R t o n x l m =
    let e = entered sh R t l.allowed m.write.active in
    record {
      small = delete_small sh R x l.allowed;
      now = λ a u. delete_kind sh R t o n x a e m u;
      after = λ q a u. delete_kind sh (Reuse q ∷ R) t o n x a e (again q x m) u;
    }
  where
    again : (q : ReuseRecord) (x : Stand) → MayDelete R (Some t) o n x → MayDelete (Reuse q ∷ R) (Some t) o n x
    again q (Whole p) m = record { write = reuse_write R q t o n (Whole p) m.write; entries = m.entries }
    again q (Apart head body) m = record { write = reuse_write R q t o n (Apart head body) m.write; entries = m.entries }

-- which way an update goes

whole_goes : (sh : Shape) (R : List Record) (own : Option ℕ) (o n : ℕ) (p : Rowid) (bytes : List ℕ) → MayWrite R own o n (Whole p) → IsRowSize bytes → first_lacking R own (updated_blocks R own (Whole p) (length bytes)) ≡ None
    → UpdateGoes sh R own o n (Whole p) bytes (path_of R own (Whole p) (length bytes))
whole_goes sh R own o n p bytes m s h =
    (elim (fits_at R own p (length bytes)) as (λ v. fits_at R own p (length bytes) ≡ v → first_lacking R own (cond v (p.dba ∷ []) (p.dba ∷ [])) ≡ None → UpdateGoes sh R own o n (Whole p) bytes (cond v InPlace ToOther)) [
      | true ↦ λ e f. record { write = m; size = s; goes = ap (λ v. cond v InPlace ToOther) e }
      | false ↦ λ e f b here takes other. record { write = m; size = s; goes = ap (λ v. cond v InPlace ToOther) e; entries = f; here = here; takes = takes; other = other }
    ]) refl h

apart_goes : (sh : Shape) (R : List Record) (own : Option ℕ) (o n : ℕ) (head body : Rowid) (bytes : List ℕ) → MayWrite R own o n (Apart head body) → IsRowSize bytes → first_lacking R own (updated_blocks R own (Apart head body) (length bytes)) ≡ None
    → UpdateGoes sh R own o n (Apart head body) bytes (path_of R own (Apart head body) (length bytes))
apart_goes sh R own o n head body bytes m s h =
    (elim (fits_at R own body (length bytes)) as (λ u. fits_at R own body (length bytes) ≡ u → first_lacking R own (cond u (body.dba ∷ []) (body.dba ∷ head.dba ∷ [])) ≡ None
    → UpdateGoes sh R own o n (Apart head body) bytes (cond u InPlace (cond (fits_at R own head (length bytes)) ToHead ToOther))) [
      | true ↦ λ e f. record { write = m; size = s; goes = ap (λ u. cond u InPlace (cond (fits_at R own head (length bytes)) ToHead ToOther)) e }
      | false ↦ λ e f. (elim (fits_at R own head (length bytes)) as (λ v. fits_at R own head (length bytes) ≡ v → UpdateGoes sh R own o n (Apart head body) bytes (cond v ToHead ToOther)) [
        | true ↦ λ g. record { write = m; size = s; goes = ap₂ (λ u v. cond u InPlace (cond v ToHead ToOther)) e g; entries = f }
        | false ↦ λ g b here takes other. record { write = m; size = s; goes = ap₂ (λ u v. cond u InPlace (cond v ToHead ToOther)) e g; entries = f; here = here; takes = takes; other = other }
      ]) refl
    ]) refl h

pub updates_go : UpdatesGo
updates_go sh R own o n (Whole p) bytes m s h = whole_goes sh R own o n p bytes m s h
updates_go sh R own o n (Apart head body) bytes m s h = apart_goes sh R own o n head body bytes m s h
