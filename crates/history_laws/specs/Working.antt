-- What is true of a session between the events of a statement that is under way, whatever other sessions do: one record for each
-- kind of work. The span ends with the records as they are now. This engine's own.
use Rattle.std.specs.Prelude.{◌≡◌, ℕ, ◌+◌, ◌≤◌, ◌<◌, true, false, List, [], ◌∷◌, length, take, drop, map, MatchOption, Option, Some, None}
use Rattle.seg_words.specs.Types.{Shape, Rowid, UndoAddr}
use Rattle.redo_model.specs.Records.{Record}
use Rattle.redo_model.specs.Model.{Effect, prefix, commit_count, is_backed, table_named, HasMovement}
use Rattle.redo_laws.specs.Scan.{scan_list, scanned}
use Rattle.redo_laws.specs.Stays.{Later, IsNotOf}
use Rattle.session_laws.specs.Sessions.{own_of, own_number}
use Rattle.scan_laws.specs.Changes.{changed_between}
use Rattle.shrink_laws.specs.declared.skip.Skip.{Skip}
use Rattle.shrink_laws.specs.Stops.{SkipsStand}
use Rattle.shrink_laws.specs.Cursor.{CursorStands}
use Rattle.change_laws.specs.Looks.{WasFound}
pub use Rattle.history_model.specs.Spans.{now_of, later}
pub use Rattle.history_model.specs.SoFar.{IsIdle}
use Rattle.script_text.specs.declared.statement.Statement.{Statement}
use Rattle.script_text.specs.declared.statement.Statement.TheVariants as asked
use Rattle.history_text.specs.declared.outcome.RowOut.{RowOut}
use Rattle.history_text.specs.declared.outcome.Stop.{Stop}
use Rattle.history_model.specs.declared.limit.TheConstants.{MOST_STARTS}
use Rattle.history_model.specs.Spans.{Span}
use Rattle.history_model.specs.SoFar.{IsUnlowered}
use Rattle.history_model.specs.Stopping.{AreSkippedAt, AreMovedAt}
use Rattle.history_model.specs.Released.{Gone, gone_by, or_else, first_gone}
use Rattle.history_model.specs.Causes.{IsOnRow}
use Rattle.history_model.specs.TableMeans.{row_out}
use Rattle.history_model.specs.ShrinkMeans.{move_count, StopIs}

-- a span with one more record
abbrev pub grown : Span → Record → Span
grown x r = record { session = x.session; scripts = x.scripts; past = x.past; begun = x.begun; ended = r ∷ x.ended }

-- ---- an insert after movements of the marks

pub record InsertStands (x : Span) (name : List ℕ) (o : ℕ) : Type 0 where
  pub table : table_named x.begun name ≡ Some o
  pub idle : IsIdle x

-- ---- an update or a delete

-- where its row was found: the place, the incarnation of its extent, the undo address of the image, and the number of commits
pub record FoundAt : Type 0 where
  pub place : Rowid
  pub born : ℕ
  pub undo : UndoAddr
  pub start : ℕ

-- its table and row, the numbers of commits that ended its starts so far, in order, and where the row was found
pub record RowWork : Type 0 where
  pub obj : ℕ
  pub row : ℕ
  pub starts : List ℕ
  pub place : Option FoundAt

-- the starts from number s on were ended by these, of which the last one is m
abbrev pub HasStarted : List Record → ℕ → ℕ → List ℕ → ℕ → Type 0
HasStarted E n s [] m = s ≡ m
HasStarted E n s (c ∷ cs) m = (s < c) × (changed_between E s c n ≡ true) × HasStarted E n c cs m

-- the row was found at this place at the last start or later
abbrev pub PlaceStands : Shape → Span → RowWork → ℕ → FoundAt → Type 0
PlaceStands sh x k last f = WasFound sh x.ended (own_of x.ended x.session) k.obj k.row f.place f.born f.undo f.start × (last ≤ f.start)

pub record RowStands (sh : Shape) (x : Span) (st : Statement) (k : RowWork) : Type 0 where
  pub on : IsOnRow x st k.obj k.row
  pub idle : IsIdle x
  pub last : ℕ
  pub started : HasStarted x.ended k.row (commit_count x.begun) k.starts last
  pub few : length k.starts < MOST_STARTS
  pub known : last ≤ commit_count x.ended
  pub found : MatchOption k.place (Unit {0}) (PlaceStands sh x k last)

-- ---- a transaction that is taken back

pub record BackStands (x : Span) (t : ℕ) : Type 0 where
  pub own_begun : own_of x.begun x.session ≡ Some t
  pub own_now : own_of x.ended x.session ≡ Some t
  pub whole : is_backed x.begun t ≡ false
  pub idle : IsIdle x

-- ---- a scan

-- its table, number and transaction, its list, how many blocks of it were read, their rows, and the mark: what was released
-- first that has a block of those that were not read
pub record OpenScan : Type 0 where
  pub obj : ℕ
  pub at : ℕ
  pub own : Option ℕ
  pub blocks : List ℕ
  pub read : ℕ
  pub rows : List RowOut
  pub mark : Option Gone

-- what it gathered are the rows that the blocks read so far gave as it began
pub record ScanStands (sh : Shape) (x : Span) (name : List ℕ) (s : OpenScan) : Type 0 where
  pub table : table_named x.begun name ≡ Some s.obj
  pub number : s.at ≡ commit_count x.begun
  pub own_is : s.own ≡ own_of x.begun x.session
  pub list : s.blocks ≡ scan_list sh x.begun s.obj
  pub within : s.read < length s.blocks
  pub idle : IsIdle x
  pub quiet : Later (λ (e : Effect). IsNotOf e (own_number x.begun x.session)) x.begun x.ended
  pub marked : s.mark ≡ first_gone sh s.obj (drop s.read (scan_list sh x.begun s.obj)) (length x.begun) x.ended
  pub gathered : s.rows ≡ map row_out (scanned (λ b. x.begun) (take s.read (scan_list sh x.begun s.obj)) (commit_count x.begun) (own_number x.begun x.session))

-- the mark after one more record: the first one stays
abbrev pub marked_by : Shape → Record → OpenScan → OpenScan
marked_by sh r s = record { obj = s.obj; at = s.at; own = s.own; blocks = s.blocks; read = s.read; rows = s.rows; mark = or_else s.mark (gone_by sh r s.obj (drop s.read s.blocks)) }

-- after what an event released
abbrev pub marked_since : Shape → ℕ → List Record → OpenScan → OpenScan
marked_since sh n R s = record { obj = s.obj; at = s.at; own = s.own; blocks = s.blocks; read = s.read; rows = s.rows; mark = or_else s.mark (first_gone sh s.obj (drop s.read s.blocks) n R) }

-- ---- a shrink

-- its table, the position of its cursor, what it skipped, and how many rows it moved
pub record MoveWork : Type 0 where
  pub obj : ℕ
  pub cursor : ℕ
  pub skips : List Skip
  pub moved : ℕ

pub record ShrinkStands (sh : Shape) (x : Span) (name : List ℕ) (k : MoveWork) : Type 0 where
  pub table : table_named x.begun name ≡ Some k.obj
  pub still : table_named x.ended name ≡ Some k.obj
  pub idle : IsIdle x
  pub movement : HasMovement x.ended k.obj
  pub cursor : CursorStands sh x.begun x.ended k.obj k.skips k.cursor
  pub skipped : SkipsStand x.begun x.ended k.skips
  pub skipped_at : AreSkippedAt sh x.begun x.ended k.obj k.skips
  pub moved_at : AreMovedAt sh x.begun k.obj k.skips x.ended
  pub unlowered : IsUnlowered x k.obj
  pub moves : move_count x.ended k.obj ≡ move_count x.begun k.obj + k.moved

-- one that has stopped, as there were so many records, and has yet to lower
pub record StoppedWork : Type 0 where
  pub obj : ℕ
  pub skips : List Skip
  pub moved : ℕ
  pub stopped : ℕ
  pub stop : Stop

pub record StoppedStands (sh : Shape) (x : Span) (name : List ℕ) (k : StoppedWork) : Type 0 where
  pub table : table_named x.begun name ≡ Some k.obj
  pub still : table_named x.ended name ≡ Some k.obj
  pub idle : IsIdle x
  pub from : length x.begun ≤ k.stopped
  pub to : k.stopped ≤ length x.ended
  pub moves : move_count x.ended k.obj ≡ move_count x.begun k.obj + k.moved
  pub none_after : move_count x.ended k.obj ≡ move_count (prefix x.ended k.stopped) k.obj
  pub skipped : SkipsStand x.begun (prefix x.ended k.stopped) k.skips
  pub skipped_at : AreSkippedAt sh x.begun (prefix x.ended k.stopped) k.obj k.skips
  pub moved_at : AreMovedAt sh x.begun k.obj k.skips (prefix x.ended k.stopped)
  pub unlowered : IsUnlowered x k.obj
  pub stops : StopIs sh x.begun (prefix x.ended k.stopped) k.obj k.skips k.stop

-- ---- any of them

pub data Work : Type 0 where
  Inserting : ℕ → Work
  OnRow : RowWork → Work
  TakingBack : ℕ → Work
  Scanning : OpenScan → Work
  Shrinking : MoveWork → Work
  Lowering : StoppedWork → Work

-- the work that a statement is at, as it stands
abbrev pub WorkStands : Shape → Span → Option Statement → Work → Type 0
WorkStands sh x (Some (asked.Insert name label text)) (Inserting o) = InsertStands x name o
WorkStands sh x (Some (asked.Update name target text)) (OnRow k) = RowStands sh x (asked.Update name target text) k
WorkStands sh x (Some (asked.Delete name target)) (OnRow k) = RowStands sh x (asked.Delete name target) k
WorkStands sh x (Some asked.Rollback) (TakingBack t) = BackStands x t
WorkStands sh x None (TakingBack t) = BackStands x t
WorkStands sh x (Some (asked.Scan name)) (Scanning s) = ScanStands sh x name s
WorkStands sh x (Some (asked.Shrink name compact)) (Shrinking k) = ShrinkStands sh x name k
WorkStands sh x (Some (asked.Shrink name false)) (Lowering k) = StoppedStands sh x name k
WorkStands sh x st k = ⊥

-- a work after another session's record: a scan is marked, the others stay
abbrev pub work_after : Shape → Record → Work → Work
work_after sh r (Scanning s) = Scanning (marked_by sh r s)
work_after sh r k = k

-- after what an event of another session released
abbrev pub work_since : Shape → ℕ → List Record → Work → Work
work_since sh n R (Scanning s) = Scanning (marked_since sh n R s)
work_since sh n R k = k
