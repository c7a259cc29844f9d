-- Which records have a spelling: each number is in the range of its field, a row's length and each count too, and an
-- address or a block that is there isn't written as none.
use Rattle.std.specs.Prelude.{◌≡◌, ℕ, ◌<◌, ◌≤◌, ◌^◌, true, List, length, Option, Some, None}
use Rattle.seg_words.specs.Types.{AllByRecursion, Slot, UndoAddr, Rowid, UndoPlace, writer_number, is_name, MOST_PCTFREE, MOST_TABLES}
use Rattle.redo_record.specs.OwnTypes.{RowPart, BackPart, RowBody, BackRecord, MoveRecord, TableRecord, MovementRecord, ExtendRecord, FormatBlockRecord, ClassRecord, AdvanceRecord, LowerRecord, BeginRecord, ReuseRecord, CommitRecord, EndedRecord, CleanRecord, Record, Table, Movement, Extend, FormatBlock, Class, Advance, Lower, Begin, Reuse, Insert, Update, Migrate, Return, Delete, Commit, Back, Ended, Move, Clean}

abbrev pub IsTableNumber : ℕ → Type 0
IsTableNumber n = (1 ≤ n) × (n ≤ MOST_TABLES)

abbrev pub IsAddress : UndoAddr → Type 0
IsAddress a = (a.block < 2 ^ 32) × ((a.seq < 2 ^ 64) × (a.nth < 2 ^ 8))

abbrev pub IsUndo : Option UndoAddr → Type 0
IsUndo None = Unit {0}
IsUndo (Some a) = (0 < a.block) × IsAddress a

abbrev pub IsPlace : Option UndoPlace → Type 0
IsPlace None = Unit {0}
IsPlace (Some p) = (0 < p.block) × ((p.block < 2 ^ 32) × (p.nth < 2 ^ 8))

abbrev pub IsLink : Option Rowid → Type 0
IsLink None = Unit {0}
IsLink (Some r) = (0 < r.dba) × ((r.dba < 2 ^ 32) × (r.slot < 2 ^ 8))

abbrev pub IsBlock : Option ℕ → Type 0
IsBlock None = Unit {0}
IsBlock (Some b) = (0 < b) × (b < 2 ^ 32)

abbrev pub IsEntry : Option ℕ → Type 0
IsEntry None = Unit {0}
IsEntry (Some i) = i < 255

pub record IsImage (s : Slot) : Type 0 where
  pub writer : writer_number s.writer < 2 ^ 64
  pub undo : IsUndo s.undo
  pub row : s.row < 2 ^ 64
  pub link : IsLink s.link
  pub bytes : length s.bytes < 2 ^ 16
  pub room : s.room < 2 ^ 16

pub record IsRowPart (p : RowPart) : Type 0 where
  pub dba : p.dba < 2 ^ 32
  pub slot : p.slot < 2 ^ 8
  pub entry : IsEntry p.entry
  pub new : IsImage p.new
  pub old : IsImage p.old

pub record IsBackPart (p : BackPart) : Type 0 where
  pub dba : p.dba < 2 ^ 32
  pub slot : p.slot < 2 ^ 8
  pub entry : IsEntry p.entry
  pub new : IsImage p.new

pub record AreParts {P : Type 0} (IsPart : P → Type 0) (ps : List P) : Type 0 where
  pub least : 1 ≤ length ps
  pub most : length ps ≤ 3
  pub each : AllByRecursion IsPart ps

pub record IsRowBody (b : RowBody) : Type 0 where
  pub txn : b.txn < 2 ^ 64
  pub entry : b.entry < 2 ^ 8
  pub obj : IsTableNumber b.obj
  pub row : b.row < 2 ^ 64
  pub undo : IsAddress b.undo
  pub previous : IsPlace b.previous
  pub parts : AreParts IsRowPart b.parts

pub record IsBack (b : BackRecord) : Type 0 where
  pub txn : b.txn < 2 ^ 64
  pub entry : b.entry < 2 ^ 8
  pub obj : IsTableNumber b.obj
  pub row : b.row < 2 ^ 64
  pub undo : IsAddress b.undo
  pub previous : IsPlace b.previous
  pub parts : AreParts IsBackPart b.parts
  pub last : IsUndo b.last

pub record IsMove (m : MoveRecord) : Type 0 where
  pub obj : IsTableNumber m.obj
  pub row : m.row < 2 ^ 64
  pub undo : IsAddress m.undo
  pub parts : AreParts IsRowPart m.parts
  pub number : m.number < 2 ^ 64

pub record IsTable (t : TableRecord) : Type 0 where
  pub obj : IsTableNumber t.obj
  pub header : t.header < 2 ^ 32
  pub pctfree : t.pctfree ≤ MOST_PCTFREE
  pub name : is_name t.name ≡ true

pub record IsMovement (m : MovementRecord) : Type 0 where
  pub obj : IsTableNumber m.obj
  pub header : m.header < 2 ^ 32

pub record IsExtend (e : ExtendRecord) : Type 0 where
  pub obj : IsTableNumber e.obj
  pub header : e.header < 2 ^ 32
  pub index : e.index < 2 ^ 16
  pub extent : e.extent < 2 ^ 32
  pub l2 : e.l2 < 2 ^ 32
  pub l3 : e.l3 < 2 ^ 32

pub record IsFormatBlock (f : FormatBlockRecord) : Type 0 where
  pub obj : IsTableNumber f.obj
  pub dba : f.dba < 2 ^ 32
  pub l2 : f.l2 < 2 ^ 32
  pub l3 : f.l3 < 2 ^ 32
  pub index : f.index < 2 ^ 16
  pub best_of_l1 : f.best_of_l1 ≤ 5
  pub best_of_l2 : f.best_of_l2 ≤ 5

pub record IsClass (c : ClassRecord) : Type 0 where
  pub obj : IsTableNumber c.obj
  pub dba : c.dba < 2 ^ 32
  pub l2 : c.l2 < 2 ^ 32
  pub l3 : c.l3 < 2 ^ 32
  pub index : c.index < 2 ^ 16
  pub best_of_l1 : c.best_of_l1 ≤ 5
  pub best_of_l2 : c.best_of_l2 ≤ 5

pub record IsAdvance (a : AdvanceRecord) : Type 0 where
  pub obj : IsTableNumber a.obj
  pub header : a.header < 2 ^ 32
  pub low : a.low < 2 ^ 32
  pub high : a.high < 2 ^ 32

pub record IsThree {A : Type 0} (Is : A → Type 0) (xs : List A) : Type 0 where
  pub count : length xs ≡ 3
  pub each : AllByRecursion Is xs

pub record AreExtents (xs : List ℕ) : Type 0 where
  pub count : length xs < 2 ^ 16
  pub each : AllByRecursion (λ x. x < 2 ^ 32) xs

pub record IsLower (l : LowerRecord) : Type 0 where
  pub obj : IsTableNumber l.obj
  pub header : l.header < 2 ^ 32
  pub lowering : l.lowering < 2 ^ 64
  pub kept : l.kept < 2 ^ 16
  pub low : l.low < 2 ^ 32
  pub high : l.high < 2 ^ 32
  pub l2 : IsThree IsBlock l.l2
  pub l3 : l.l3 < 2 ^ 32
  pub bests : IsThree (λ c. c ≤ 5) l.bests
  pub released : AreExtents l.released

pub record IsBegin (b : BeginRecord) : Type 0 where
  pub txn : b.txn < 2 ^ 64
  pub session : b.session < 2 ^ 8
  pub entry : b.entry < 2 ^ 8
  pub control : b.control < 2 ^ 64

pub record IsReuse (r : ReuseRecord) : Type 0 where
  pub block : r.block < 2 ^ 32
  pub sequence : r.sequence < 2 ^ 64

pub record IsCommit (c : CommitRecord) : Type 0 where
  pub txn : c.txn < 2 ^ 64
  pub number : c.number < 2 ^ 64
  pub entry : c.entry < 2 ^ 8

pub record IsEnded (e : EndedRecord) : Type 0 where
  pub txn : e.txn < 2 ^ 64
  pub entry : e.entry < 2 ^ 8

pub record IsClean (c : CleanRecord) : Type 0 where
  pub dba : c.dba < 2 ^ 32
  pub count : length c.ended < 2 ^ 8
  pub each : AllByRecursion (λ t. (t.0 < 2 ^ 64) × (t.1 < 2 ^ 64)) c.ended

abbrev pub HasSpelling : Record → Type 0
HasSpelling (Table t) = IsTable t
HasSpelling (Movement m) = IsMovement m
HasSpelling (Extend e) = IsExtend e
HasSpelling (FormatBlock f) = IsFormatBlock f
HasSpelling (Class c) = IsClass c
HasSpelling (Advance a) = IsAdvance a
HasSpelling (Lower l) = IsLower l
HasSpelling (Begin b) = IsBegin b
HasSpelling (Reuse r) = IsReuse r
HasSpelling (Insert b) = IsRowBody b
HasSpelling (Update b) = IsRowBody b
HasSpelling (Migrate b) = IsRowBody b
HasSpelling (Return b) = IsRowBody b
HasSpelling (Delete b) = IsRowBody b
HasSpelling (Commit c) = IsCommit c
HasSpelling (Back b) = IsBack b
HasSpelling (Ended e) = IsEnded e
HasSpelling (Move m) = IsMove m
HasSpelling (Clean c) = IsClean c
