-- Why a statement is refused: the cause of each refusal, for the statements that it is tested for. Some speak of the records as
-- the statement's first event began and of the history before its start; the others of the records as its last event began,
-- which are those as it ended, since an event that refuses adds none. Oracle: errors ORA-00942, ORA-00955, ORA-10636,
-- ORA-00054, ORA-01555, ORA-08103, ORA-01653, ORA-30036, as far as their like is meant; what exactly calls for each is this
-- engine's own.
use Rattle.std.specs.Prelude.{◌≡◌, ◌≢◌, ◌⊎◌, ℕ, ◌+◌, ◌*◌, ◌<◌, ◌≤◌, Bool, true, false, List, [], ◌∷◌, length, drop, MatchOption, Option, Some, None, slice_get}
use Rattle.seg_words.specs.Types.{Shape, Row, Full, Fs4, class_code, writer_has_ended, UndoAddr, UNDO_PART_SIZE, MOST_TABLES, MOST_EXTENTS}
use Rattle.redo_model.specs.Records.{Record}
use Rattle.redo_model.specs.Model.{prefix, commit_count, ended_in, view, image, extents_of, IsRowBlock, table_count, table_named, has_movement, is_free_extent}
use Rattle.redo_laws.specs.Scan.{scan_list}
use Rattle.session_laws.specs.Sessions.{own_of, own_number}
use Rattle.scan_laws.specs.Changes.{changed_between}
use Rattle.shrink_laws.specs.declared.skip.Skip.{Skip}
use Rattle.shrink_laws.specs.Stops.{row_image, LeadsDown, SkipsStand}
use Rattle.mark_laws.specs.Movements.{IsFull as AllFull}
use Rattle.mark_laws.specs.Searches.{Sought, is_usable, find_of, HasNone}
use Rattle.mark_laws.specs.declared.step.Found.TheVariants as found
use Rattle.change_laws.specs.Drafts.{Change, taker_of, change_size, insert_of, delete_of, Stand, Whole, Apart}
use Rattle.change_laws.specs.Spots.{IsFull as IsUndoFull}
use Rattle.change_laws.specs.Ready.{first_lacking, blocks_at, ToOther, path_of, updated_blocks, StandsAt}
use Rattle.change_laws.specs.Causes.{IsBusy, IsNoSlot}
use Rattle.change_laws.specs.Answers.{change_by}
use Rattle.version_laws.specs.Ends.{IsTooOld, IsTooOldEntry}
use Rattle.script_text.specs.declared.statement.Statement.{Statement}
use Rattle.script_text.specs.declared.statement.Statement.TheVariants as asked
use Rattle.script_text.specs.declared.statement.Target.{Target}
use Rattle.script_text.specs.declared.statement.Target.TheVariants.{Label}
use Rattle.history_text.specs.declared.refusal.Refusal.{Refusal}
use Rattle.history_text.specs.declared.refusal.Refusal.TheVariants as why
use Rattle.history_model.specs.declared.limit.TheConstants.{MOST_STARTS, NEW_WORK_RECORDS}
use Rattle.history_model.specs.History.{Task, under_way, statement_of, bound}
use Rattle.history_model.specs.Spans.{Span, own_then, target_row, table_asked, target_asked}
use Rattle.history_model.specs.SoFar.{IsUnlowered}
use Rattle.history_model.specs.Stopping.{HasCome, MayGo, AreSkippedAt, AreMovedAt}
use Rattle.history_model.specs.Released.{first_gone}

-- ---- as the statement began

-- no table of that name
abbrev pub IsNoTable : Span → Statement → Type 0
IsNoTable x st = MatchOption (table_asked st) ⊥ (λ name. table_named x.begun name ≡ None)

-- the name of a new table is there
abbrev pub IsTableThere : Span → Statement → Type 0
IsTableThere x (asked.Table name pctfree) = (o : ℕ) × (table_named x.begun name ≡ Some o)
IsTableThere x st = ⊥

-- a new name beside as many tables as there can be
abbrev pub IsTooManyTables : Span → Statement → Type 0
IsTooManyTables x (asked.Table name pctfree) = (table_named x.begun name ≡ None) × (MOST_TABLES ≤ table_count x.begun)
IsTooManyTables x st = ⊥

-- row movement of the table to be shrunk is off
abbrev pub IsMovementOff : Span → Statement → Type 0
IsMovementOff x (asked.Shrink name compact) = (o : ℕ) × (table_named x.begun name ≡ Some o) × (has_movement x.begun o ≡ false)
IsMovementOff x st = ⊥

-- the session has an open transaction
abbrev pub HasTransaction : Span → Type 0
HasTransaction x = (t : ℕ) × (own_of x.begun x.session ≡ Some t)

abbrev pub IsTransactionOpen : Span → Statement → Type 0
IsTransactionOpen x (asked.Table name pctfree) = HasTransaction x
IsTransactionOpen x (asked.Movement name on) = HasTransaction x
IsTransactionOpen x (asked.Shrink name compact) = HasTransaction x
IsTransactionOpen x st = ⊥

-- before the statement's start stands the start of a shrink of the table by another session v, and no entry of v after it
pub record IsShrunkBy (x : Span) (name : List ℕ) (v : ℕ) : Type 0 where
  pub other : v ≢ x.session
  pub task : Task
  pub under : under_way x.past v ≡ Some task
  pub its_name : List ℕ
  pub compact : Bool
  pub statement : statement_of x.scripts v task.place ≡ Some (asked.Shrink its_name compact)
  pub obj : ℕ
  pub its_table : table_named (prefix x.begun task.begins) its_name ≡ Some obj
  pub table : table_named x.begun name ≡ Some obj

abbrev pub IsShrinkBusy : Span → Statement → ℕ → Type 0
IsShrinkBusy x (asked.Movement name on) v = IsShrunkBy x name v
IsShrinkBusy x (asked.Shrink name compact) v = IsShrunkBy x name v
IsShrinkBusy x st v = ⊥

-- the log has as many records as new work may find
abbrev pub IsLogFull : Span → Statement → Type 0
IsLogFull x asked.Commit = ⊥
IsLogFull x asked.Rollback = ⊥
IsLogFull x (asked.Scan name) = ⊥
IsLogFull x (asked.Usage name) = ⊥
IsLogFull x asked.Checkpoint = ⊥
IsLogFull x st = NEW_WORK_RECORDS ≤ length x.begun

-- the block to be fixed is no formatted data block of the table under its high mark
abbrev pub IsNotDataBlock : Shape → Span → Statement → ℕ → Type 0
IsNotDataBlock sh x (asked.Fix name block value) b = (b ≡ block) × ((o : ℕ) × (table_named x.begun name ≡ Some o) × (IsRowBlock sh x.begun o block → ⊥))
IsNotDataBlock sh x st b = ⊥

-- the value to be kept is none from that of full to that of the emptiest quarter, 1 to 5
abbrev pub IsBadValue : Statement → ℕ → Type 0
IsBadValue (asked.Fix name block (Some value)) v = (v ≡ value) × ((value < class_code Full) ⊎ (class_code Fs4 < value))
IsBadValue st v = ⊥

-- no entry before the statement's start is an accepted insert of the label
abbrev pub IsUnbound : Span → Statement → List ℕ → Type 0
IsUnbound x st l = (target_asked st ≡ Some (Label l)) × (bound x.scripts x.past l ≡ None)

-- ---- as its last event began

-- the statement is an update or a delete of row n of table o
pub record IsOnRow (x : Span) (st : Statement) (o n : ℕ) : Type 0 where
  pub name : List ℕ
  pub named : table_asked st ≡ Some name
  pub table : table_named x.begun name ≡ Some o
  pub target : Target
  pub targeted : target_asked st ≡ Some target
  pub row : target_row x.scripts x.past target ≡ Some n

-- the session's view of the row at all commits
abbrev pub row_seen : Span → ℕ → ℕ → Option (List ℕ)
row_seen x o n = view x.ended o (commit_count x.ended) (own_number x.ended x.session) n

-- the row isn't in the session's view
pub record IsNoRow (x : Span) (st : Statement) (n : ℕ) : Type 0 where
  pub obj : ℕ
  pub on : IsOnRow x st obj n
  pub none : row_seen x obj n ≡ None

-- it is, and its last record that isn't taken back is another active transaction's
pub record IsRowBusy (x : Span) (st : Statement) (u : ℕ) : Type 0 where
  pub obj : ℕ
  pub row : ℕ
  pub on : IsOnRow x st obj row
  pub was : List ℕ
  pub there : row_seen x obj row ≡ Some was
  pub busy : IsBusy x.ended (own_then x) row u

-- Each of these numbers of commits, of which the first is above s and each above the one before, ended a start: a commit above
-- the number before and at most this one changed row n, or is a move of it. The last one is the number now.
abbrev pub AreStarts : List Record → ℕ → ℕ → List ℕ → Type 0
AreStarts E n s [] = s ≡ commit_count E
AreStarts E n s (c ∷ cs) = (s < c) × (changed_between E s c n ≡ true) × AreStarts E n c cs

-- as many starts as there may be were ended
pub record IsAgain (x : Span) (st : Statement) (cs : List ℕ) : Type 0 where
  pub obj : ℕ
  pub row : ℕ
  pub on : IsOnRow x st obj row
  pub starts : AreStarts x.ended row (commit_count x.begun) cs
  pub count : length cs ≡ MOST_STARTS

-- the row's blocks that an update or a delete must change, its body's first
abbrev pub must_change : Span → Statement → Stand → List ℕ
must_change x (asked.Update name target text) s = updated_blocks x.ended (own_then x) s (length text)
must_change x st s = blocks_at s

-- the first of them that has no list entry for the session: its entries name other active transactions, and there are as many
-- as there can be, or a new one's bytes aren't free
pub record IsEntryless (x : Span) (st : Statement) (ts : List ℕ) : Type 0 where
  pub obj : ℕ
  pub row : ℕ
  pub on : IsOnRow x st obj row
  pub stand : Stand
  pub stands : StandsAt x.ended row stand
  pub block : ℕ
  pub first : first_lacking x.ended (own_then x) (must_change x st stand) ≡ Some block
  pub no_slot : IsNoSlot x.ended (own_then x) block ts

-- a migrating row's own blocks
abbrev pub own_blocks : Stand → List (Option ℕ)
own_blocks (Whole p) = Some p.dba ∷ []
own_blocks (Apart head body) = Some head.dba ∷ Some body.dba ∷ []

-- what an update of the row that stands there looks for where it needs another block
abbrev pub sought_for : Option ℕ → ℕ → ℕ → List (Option ℕ) → Sought
sought_for own o len but = record { obj = o; len = len; taker = taker_of own; but = but }

-- an insert looks for a block for its row
pub record InsertSeeks (x : Span) (name text : List ℕ) (q : Sought) : Type 0 where
  pub obj : ℕ
  pub table : table_named x.begun name ≡ Some obj
  pub sought : q ≡ sought_for (own_then x) obj (length text) []

-- an update does where its row goes to another block than its own ones
pub record UpdateSeeks (x : Span) (st : Statement) (text : List ℕ) (q : Sought) : Type 0 where
  pub obj : ℕ
  pub row : ℕ
  pub on : IsOnRow x st obj row
  pub stand : Stand
  pub stands : StandsAt x.ended row stand
  pub away : path_of x.ended (own_then x) stand (length text) ≡ ToOther
  pub sought : q ≡ sought_for (own_then x) obj (length text) (own_blocks stand)

-- the last event looks for a block
abbrev pub Seeks : Span → Statement → Sought → Type 0
Seeks x (asked.Insert name label text) q = InsertSeeks x name text q
Seeks x (asked.Update name target text) q = UpdateSeeks x (asked.Update name target text) text q
Seeks x st q = ⊥

-- no formatted block under the high mark takes the row, none there is unformatted, and each data block is there
pub record NoBlockTakes (sh : Shape) (x : Span) (st : Statement) (q : Sought) : Type 0 where
  pub seeks : Seeks x st q
  pub none_takes : HasNone sh x.ended q.obj (is_usable sh x.ended q)
  pub full : AllFull sh x.ended q.obj

abbrev pub NoFreeExtent : Shape → List Record → Type 0
NoFreeExtent sh E = (y : ℕ) → is_free_extent sh E y ≡ false

-- no extent is free, and the table could have one more
pub record IsNoRoom (sh : Shape) (x : Span) (st : Statement) (need : ℕ) : Type 0 where
  pub sought : Sought
  pub none : NoBlockTakes sh x st sought
  pub length_is : need ≡ sought.len
  pub no_extent : NoFreeExtent sh x.ended
  pub few : length (extents_of x.ended sought.obj) < MOST_EXTENTS

-- a new table finds no free extent either
abbrev pub IsNoSpace : Shape → Span → Statement → ℕ → Type 0
IsNoSpace sh x (asked.Table name pctfree) need = (need ≡ 0) × NoFreeExtent sh x.ended
IsNoSpace sh x st need = IsNoRoom sh x st need

-- the table has as many extents as it can have
pub record IsMaxExtents (sh : Shape) (x : Span) (st : Statement) (count : ℕ) : Type 0 where
  pub sought : Sought
  pub none : NoBlockTakes sh x st sought
  pub count_is : count ≡ MOST_EXTENTS
  pub most : length (extents_of x.ended sought.obj) ≡ MOST_EXTENTS

-- the block that the search finds, under some hint or none
pub record IsFound (sh : Shape) (x : Span) (st : Statement) (b : ℕ) : Type 0 where
  pub sought : Sought
  pub seeks : Seeks x st sought
  pub hint : Option ℕ
  pub found_is : find_of sh x.ended sought hint ≡ Some (found.Block b)

-- how many bytes of undo the record of the last event needs, for each kind of statement

pub record InsertNeeds (sh : Shape) (x : Span) (name label text : List ℕ) (need : ℕ) : Type 0 where
  pub obj : ℕ
  pub table : table_named x.begun name ≡ Some obj
  pub block : ℕ
  pub is_found : IsFound sh x (asked.Insert name label text) block
  pub size : need ≡ change_size x.ended (insert_of x.ended obj block text)

pub record UpdateNeeds (sh : Shape) (x : Span) (st : Statement) (text : List ℕ) (need : ℕ) : Type 0 where
  pub obj : ℕ
  pub row : ℕ
  pub on : IsOnRow x st obj row
  pub stand : Stand
  pub stands : StandsAt x.ended row stand
  pub to : Option ℕ
  pub target : MatchOption to (Unit {0}) (λ b. IsFound sh x st b)
  pub change : Change
  pub changed : change_by x.ended obj row stand text to (path_of x.ended (own_then x) stand (length text)) ≡ Some change
  pub size : need ≡ change_size x.ended change

pub record DeleteNeeds (x : Span) (st : Statement) (need : ℕ) : Type 0 where
  pub obj : ℕ
  pub row : ℕ
  pub on : IsOnRow x st obj row
  pub stand : Stand
  pub stands : StandsAt x.ended row stand
  pub size : need ≡ change_size x.ended (delete_of obj row stand)

-- a row that stands whole, and a head whose body becomes the row, move by two parts, another migrated row by three
abbrev pub HasMoveParts : Shape → List Record → ℕ → ℕ → ℕ → ℕ → ℕ → Type 0
HasMoveParts sh E o place d k parts =
    ((parts ≡ 2) × (((image E d k).kind ≡ Row) ⊎ LeadsDown sh E o place d k)) ⊎ ((parts ≡ 3) × ((image E d k).kind ≢ Row) × (LeadsDown sh E o place d k → ⊥))

-- the move of the row that is next, past what was skipped: its last writer has ended, and it has a place to go to
pub record MoveNeeds (sh : Shape) (x : Span) (name : List ℕ) (need : ℕ) : Type 0 where
  pub obj : ℕ
  pub table : table_named x.begun name ≡ Some obj
  pub unlowered : IsUnlowered x obj
  pub skips : List Skip
  pub skipped_so : SkipsStand x.begun x.ended skips
  pub skipped_at : AreSkippedAt sh x.begun x.ended obj skips
  pub moved_at : AreMovedAt sh x.begun obj skips x.ended
  pub place : ℕ
  pub block : ℕ
  pub slot : ℕ
  pub come : HasCome sh x.begun x.ended obj skips place block slot
  pub over : writer_has_ended (ended_in x.ended) (row_image x.ended block slot).writer ≡ true
  pub goes : MayGo sh x.ended obj place block slot
  pub parts : ℕ
  pub parts_are : HasMoveParts sh x.ended obj place block slot parts
  pub size : need ≡ parts * UNDO_PART_SIZE + length (row_image x.ended block slot).bytes

abbrev pub Needs : Shape → Span → Statement → ℕ → Type 0
Needs sh x (asked.Insert name label text) need = InsertNeeds sh x name label text need
Needs sh x (asked.Update name target text) need = UpdateNeeds sh x (asked.Update name target text) text need
Needs sh x (asked.Delete name target) need = DeleteNeeds x (asked.Delete name target) need
Needs sh x (asked.Shrink name compact) need = MoveNeeds sh x name need
Needs sh x st need = ⊥

-- so many bytes don't fit in the current undo block, and each other one holds a part of an active transaction: the pairs name
-- block and least such transaction, in ring order after the current one
pub record IsNoUndo (sh : Shape) (x : Span) (st : Statement) (hs : List (ℕ × ℕ)) : Type 0 where
  pub need : ℕ
  pub needs : Needs sh x st need
  pub full : IsUndoFull sh x.ended need hs

-- ---- of a scan that had read so many blocks of its list

-- its table and the block that it reads next
pub record NextRead (sh : Shape) (x : Span) (st : Statement) (read o b : ℕ) : Type 0 where
  pub name : List ℕ
  pub statement : st ≡ asked.Scan name
  pub table : table_named x.begun name ≡ Some o
  pub block : slice_get (scan_list sh x.begun o) read ≡ Some b

-- an extent with an unread block of the list was released: the first one, and of those released with it the least
pub record IsObjectGone (sh : Shape) (x : Span) (st : Statement) (read extent lowering : ℕ) : Type 0 where
  pub obj : ℕ
  pub block : ℕ
  pub next : NextRead sh x st read obj block
  pub gone : first_gone sh obj (drop read (scan_list sh x.begun obj)) (length x.begun) x.ended ≡ Some (record { extent = extent; lowering = lowering })

-- a part of undo that is needed in the next block, at the scan's number for its transaction, was reused
pub record IsSnapshotTooOld (sh : Shape) (x : Span) (st : Statement) (read : ℕ) (a : UndoAddr) : Type 0 where
  pub obj : ℕ
  pub block : ℕ
  pub next : NextRead sh x st read obj block
  pub lost : IsTooOld x.ended block (commit_count x.begun) (own_number x.begun x.session) a

-- an image that is reached in the next block names a transaction that is forgotten, and the control number is above the scan's
pub record IsEntryTooOld (sh : Shape) (x : Span) (st : Statement) (read u : ℕ) : Type 0 where
  pub obj : ℕ
  pub block : ℕ
  pub next : NextRead sh x st read obj block
  pub unknown : IsTooOldEntry x.ended block (commit_count x.begun) (own_number x.begun x.session) u

-- ---- the table of causes

-- That a row needs another block is no refusal once rows migrate: it never comes.
abbrev pub Cause : Shape → Span → Statement → ℕ → Refusal → Type 0
Cause sh x st read why.NoTable = IsNoTable x st
Cause sh x st read why.TableExists = IsTableThere x st
Cause sh x st read why.TooManyTables = IsTooManyTables x st
Cause sh x st read why.MovementOff = IsMovementOff x st
Cause sh x st read why.TransactionOpen = IsTransactionOpen x st
Cause sh x st read (why.ShrinkBusy v) = IsShrinkBusy x st v
Cause sh x st read why.LogFull = IsLogFull x st
Cause sh x st read (why.NotDataBlock b) = IsNotDataBlock sh x st b
Cause sh x st read (why.BadValue v) = IsBadValue st v
Cause sh x st read (why.Unbound l) = IsUnbound x st l
Cause sh x st read (why.NoRow n) = IsNoRow x st n
Cause sh x st read (why.Busy u) = IsRowBusy x st u
Cause sh x st read (why.Again cs) = IsAgain x st cs
Cause sh x st read (why.NoSlot ts) = IsEntryless x st ts
Cause sh x st read (why.NoSpace need) = IsNoSpace sh x st need
Cause sh x st read (why.MaxExtents count) = IsMaxExtents sh x st count
Cause sh x st read (why.UndoFull hs) = IsNoUndo sh x st hs
Cause sh x st read (why.ObjectGone extent lowering) = IsObjectGone sh x st read extent lowering
Cause sh x st read (why.TooOld a) = IsSnapshotTooOld sh x st read a
Cause sh x st read (why.TooOldEntry u) = IsEntryTooOld sh x st read u
Cause sh x st read (why.NeedsBlock len) = ⊥
