-- What the accepted statements on tables, scans and kept classes mean. Oracle Database Concepts, "Multiversion Read
-- Consistency"; DBMS_SPACE.SPACE_USAGE; DBMS_REPAIR.SEGMENT_FIX_STATUS.
use Rattle.std.specs.Prelude.{◌≡◌, ◌⊎◌, ℕ, suc, ◌≤◌, Bool, true, false, cond, ◌-◌, eqb, List, [], ◌∷◌, length, map, drop, Option, Some, None}
use Rattle.seg_words.specs.Types.{Shape, Class as BlockClass, class_code, Unformatted, Full, Fs1, Fs2, Fs3, Fs4}
use Rattle.redo_model.specs.Records.{Record, Table, Movement, Extend, Class, Clean, TableRecord, MovementRecord, ExtendRecord, ClassRecord, CleanRecord}
use Rattle.redo_model.specs.Model.{prefix, commit_count, view_rows, table_named, extents_of, low_mark, high_mark, under_high, pctfree_of, class_of_block, kept_class, code_of}
use Rattle.redo_laws.specs.Scan.{scan_list}
use Rattle.scan_laws.specs.Staying.{is_released_since}
use Rattle.session_laws.specs.Sessions.{own_number}
use Rattle.history_text.specs.declared.outcome.RowOut.{RowOut}
use Rattle.history_text.specs.declared.outcome.Usage.{Usage}
use Rattle.history_model.specs.declared.history.Settled.{Settled}
use Rattle.history_model.specs.Spans.{Span}
use Rattle.history_model.specs.Released.{first_gone}

-- a table: its Table, with the stated name and PCTFREE, and its Extend
pub record TableMeans (x : Span) (name : List ℕ) (pctfree : ℕ) : Type 0 where
  pub table : TableRecord
  pub extend : ExtendRecord
  pub named : table.name ≡ name
  pub share : table.pctfree ≡ pctfree
  pub ends : x.ended ≡ Extend extend ∷ Table table ∷ x.begun

-- row movement: the Movement of the stated table, on or off as stated
pub record MovementMeans (x : Span) (name : List ℕ) (on : Bool) : Type 0 where
  pub movement : MovementRecord
  pub table : table_named x.begun name ≡ Some movement.obj
  pub switched : movement.on ≡ on
  pub ends : x.ended ≡ Movement movement ∷ x.begun

abbrev pub row_out : ℕ × List ℕ → RowOut
row_out p = record { row = p.0; bytes = p.1 }

-- the last block of a scan's list
abbrev pub last_of : List ℕ → List ℕ
last_of bs = drop (length bs - 1) bs

-- A scan: at the number of commits as it began, the rows of the session's view then, in order of row number. As its last event
-- began, the block that it had yet to read had not been released.
pub record ScanMeans (sh : Shape) (x : Span) (name : List ℕ) (at : ℕ) (rows : List RowOut) : Type 0 where
  pub obj : ℕ
  pub table : table_named x.begun name ≡ Some obj
  pub number : at ≡ commit_count x.begun
  pub each : rows ≡ map row_out (view_rows x.begun obj (commit_count x.begun) (own_number x.begun x.session))
  pub there : first_gone sh obj (last_of (scan_list sh x.begun obj)) (length x.begun) x.ended ≡ None

-- how many of these blocks have this entry in their bitmap: that of an unformatted block, or of a kept class
abbrev pub count_kept : Shape → List Record → BlockClass → List ℕ → ℕ
count_kept sh E c [] = 0
count_kept sh E c (b ∷ bs) = cond (eqb (code_of sh E b) (class_code c)) (suc (count_kept sh E c bs)) (count_kept sh E c bs)

-- how many of table o's blocks under its high mark
abbrev pub kept_as : Shape → List Record → ℕ → BlockClass → ℕ
kept_as sh E o c = count_kept sh E c (under_high sh E o)

-- a usage: the blocks under the high mark by kept class, the unformatted ones, the marks and the extents; no record is added
pub record UsageMeans (sh : Shape) (x : Span) (name : List ℕ) (u : Usage) : Type 0 where
  pub obj : ℕ
  pub table : table_named x.begun name ≡ Some obj
  pub unformatted : u.unformatted ≡ kept_as sh x.ended obj Unformatted
  pub full : u.full ≡ kept_as sh x.ended obj Full
  pub fs1 : u.fs1 ≡ kept_as sh x.ended obj Fs1
  pub fs2 : u.fs2 ≡ kept_as sh x.ended obj Fs2
  pub fs3 : u.fs3 ≡ kept_as sh x.ended obj Fs3
  pub fs4 : u.fs4 ≡ kept_as sh x.ended obj Fs4
  pub low : u.low ≡ low_mark x.ended obj
  pub high : u.high ≡ high_mark x.ended obj
  pub extents : u.extents ≡ length (extents_of x.ended obj)
  pub ends : x.ended ≡ x.begun

-- the class is that of the stated value, or that of the block where none is stated
abbrev pub IsFixedTo : List Record → ℕ → ℕ → Option ℕ → BlockClass → Type 0
IsFixedTo E o b (Some value) c = class_code c ≡ value
IsFixedTo E o b None c = c ≡ class_of_block E (pctfree_of E o) b

-- at most one record is added, a Class of the block
pub record AddsClass (B E : List Record) (b : ℕ) : Type 0 where
  pub class : ClassRecord
  pub block : class.dba ≡ b
  pub ends : E ≡ Class class ∷ B

-- fixed: the block is kept as the class
pub record FixMeans (x : Span) (name : List ℕ) (b : ℕ) (value : Option ℕ) (c : BlockClass) : Type 0 where
  pub obj : ℕ
  pub table : table_named x.begun name ≡ Some obj
  pub kept : c ≡ kept_class x.ended b
  pub fixed : IsFixedTo x.ended obj b value c
  pub adds : (x.ended ≡ x.begun) ⊎ AddsClass x.begun x.ended b

-- a settling of block b after the records Q: a Clean and a Class of the block, or less
pub data Settles (b : ℕ) (Q : List Record) : List Record → Type 0 where
  settles_nothing : Settles b Q Q
  settles_clean : (c : CleanRecord) → c.dba ≡ b → Settles b Q (Clean c ∷ Q)
  settles_class : (k : ClassRecord) → k.dba ≡ b → Settles b Q (Class k ∷ Q)
  settles_both : (c : CleanRecord) (k : ClassRecord) → c.dba ≡ b → k.dba ≡ b → Settles b Q (Class k ∷ Clean c ∷ Q)

-- one block of a repair that began after B, settled no sooner than after the first n records
pub record IsSettled (sh : Shape) (B E : List Record) (o n b : ℕ) (s : Settled) : Type 0 where
  pub block : s.block ≡ b
  pub order : n ≤ s.before
  pub grows : s.before ≤ s.after
  pub within : s.after ≤ length E
  pub there : is_released_since sh (length B) (prefix E s.before) o b ≡ false
  pub adds : Settles b (prefix E s.before) (prefix E s.after)
  pub exact : kept_class (prefix E s.after) b ≡ class_of_block (prefix E s.after) (pctfree_of (prefix E s.after) o) b

-- a block that was released before its event, which came after the first m records, no sooner than after the first n
pub record IsReleased (sh : Shape) (B E : List Record) (o n b m : ℕ) : Type 0 where
  pub order : n ≤ m
  pub within : m ≤ length E
  pub released : is_released_since sh (length B) (prefix E m) o b ≡ true

-- of these blocks, in order, those that no Lower released before their events were settled, one after the other
pub data AreSettled (sh : Shape) (B E : List Record) (o : ℕ) : ℕ → List ℕ → List Settled → Type 0 where
  settled_none : (n : ℕ) → AreSettled sh B E o n [] []
  settled_one : (n b : ℕ) (bs : List ℕ) (s : Settled) (ss : List Settled) → IsSettled sh B E o n b s → AreSettled sh B E o s.after bs ss → AreSettled sh B E o n (b ∷ bs) (s ∷ ss)
  settled_past : (n m b : ℕ) (bs : List ℕ) (ss : List Settled) → IsReleased sh B E o n b m → AreSettled sh B E o m bs ss → AreSettled sh B E o n (b ∷ bs) ss

-- how many of them got another kept class
abbrev pub count_changed : List Record → List Settled → ℕ
count_changed E [] = 0
count_changed E (s ∷ ss) = cond (eqb (class_code (kept_class (prefix E s.before) s.block)) (class_code (kept_class (prefix E s.after) s.block))) (count_changed E ss) (suc (count_changed E ss))

-- repaired: each block that was formatted under the high mark as it began, but those that were released meanwhile
pub record RepairMeans (sh : Shape) (x : Span) (name : List ℕ) (changed : ℕ) (settled : List Settled) : Type 0 where
  pub obj : ℕ
  pub table : table_named x.begun name ≡ Some obj
  pub each : AreSettled sh x.begun x.ended obj (length x.begun) (scan_list sh x.begun obj) settled
  pub count : changed ≡ count_changed x.ended settled
