-- What stays, and what an event keeps.
use Rattle.std.specs.Prelude.{◌≡◌, ℕ, suc, ◌+◌, ◌≤◌, Bool, true, false, ◌&&◌, cond, eqb, leb, ltb, List, [], ◌∷◌, length, Option, Some, None}
use Rattle.seg_words.specs.Types.{Shape}
use Rattle.redo_record.specs.declared.record.Record.TheVariants as made
use Rattle.redo_model.specs.Records.{Record, MoveRecord}
use Rattle.redo_model.specs.Model.{Extends, IsLawful, table_named}
use Rattle.script_text.specs.declared.statement.Statement.{Statement}
use Rattle.script_text.specs.declared.statement.Statement.TheVariants as asked
use Rattle.history_text.specs.declared.entry.Entry.{Entry}
use Rattle.history_model.specs.declared.history.Start.{Start}
use Rattle.history_model.specs.declared.history.Kept.{Kept}
use Rattle.history_model.specs.declared.history.HistoryItem.{HistoryItem}
use Rattle.history_model.specs.declared.history.HistoryItem.TheVariants as item
use Rattle.history_model.specs.History.{Task, IsSession, statement_of, under_way, owner}
use Rattle.history_model.specs.Legal.{Belongs, StartStands, EntryStands, AreTold, IsLegal}
use Rattle.history_laws.specs.Events.{Goes}

-- what the history says of some records it says of every list that begins with them, whatever was added
abbrev pub EntriesStay : Type 0
EntriesStay = (sh : Shape) (scripts : List (List Statement)) (from : ℕ) (Q R : List Record) (T : List HistoryItem) → Extends Q R → AreTold sh scripts from Q T → AreTold sh scripts from R T

-- an event's start, its records and its entry keep the whole legal

abbrev pub StartsAreLegal : Type 0
StartsAreLegal = (sh : Shape) (scripts : List (List Statement)) (R0 R : List Record) (T : List HistoryItem) (s : Start) → s.begins ≡ length R → StartStands scripts (length R0) R s T → IsLegal sh scripts R0 R T → IsLegal sh scripts R0 R (item.Started s ∷ T)

abbrev pub RecordsAreLegal : Type 0
RecordsAreLegal = (sh : Shape) (scripts : List (List Statement)) (R0 Q R : List Record) (T : List HistoryItem) (w : ℕ) → IsLawful sh R → Goes sh scripts T w Q R → IsLegal sh scripts R0 Q T → IsLegal sh scripts R0 R T

abbrev pub EntriesAreLegal : Type 0
EntriesAreLegal = (sh : Shape) (scripts : List (List Statement)) (R0 R : List Record) (T : List HistoryItem) (e : Entry) (k : Kept) → e.ends ≡ length R → EntryStands sh scripts (length R0) R e k T → IsLegal sh scripts R0 R T → IsLegal sh scripts R0 R (item.Told e k ∷ T)

-- what is under way is a statement of a session of the scripts, began within the records, and has a history of its own before it
pub record IsUnderWay (sh : Shape) (scripts : List (List Statement)) (from : ℕ) (R : List Record) (T : List HistoryItem) (w : ℕ) (task : Task) : Type 0 where
  pub session : IsSession scripts w
  pub from_found : from ≤ task.begins
  pub within : task.begins ≤ length R
  pub past : AreTold sh scripts from R task.past

abbrev pub WaysAreKnown : Type 0
WaysAreKnown = (sh : Shape) (scripts : List (List Statement)) (from : ℕ) (R : List Record) (T : List HistoryItem) (w : ℕ) (task : Task) → AreTold sh scripts from R T → under_way T w ≡ Some task → IsUnderWay sh scripts from R T w task

-- how many entries of session w have the record after the first n in their range
abbrev pub entries_hold : List HistoryItem → ℕ → ℕ → ℕ
entries_hold [] w n = 0
entries_hold (item.Started s ∷ T) w n = entries_hold T w n
entries_hold (item.Told e k ∷ T) w n = cond (eqb e.session w && (leb e.begins n && ltb n e.ends)) (suc (entries_hold T w n)) (entries_hold T w n)

abbrev pub way_holds : Option Task → ℕ → ℕ
way_holds None n = 0
way_holds (Some task) n = cond (leb task.begins n) 1 0

-- how many entries and statements under way
abbrev pub holders : List HistoryItem → ℕ → ℕ → ℕ
holders T w n = way_holds (under_way T w) n + entries_hold T w n

-- what has an owner stands in the range of exactly one entry or statement under way of the session
abbrev pub OwnersAreOne : Type 0
OwnersAreOne = (sh : Shape) (scripts : List (List Statement)) (from : ℕ) (R : List Record) (T : List HistoryItem) (w n : ℕ) (task : Task) → AreTold sh scripts from R T → owner T w n ≡ Some task → holders T w n ≡ 1

-- a record of these kinds belongs to one statement of one session
abbrev pub is_of_one : Record → Bool
is_of_one (made.Table t) = true
is_of_one (made.Movement m) = true
is_of_one (made.Lower l) = true
is_of_one (made.Begin g) = true
is_of_one (made.Insert x) = true
is_of_one (made.Update x) = true
is_of_one (made.Migrate x) = true
is_of_one (made.Return x) = true
is_of_one (made.Delete x) = true
is_of_one (made.Commit c) = true
is_of_one (made.Back k) = true
is_of_one (made.Ended e) = true
is_of_one (made.Move m) = true
is_of_one _ = false

-- So each of them after the first ones does: where it stands in the range of a statement that makes it there, it belongs to that
-- one. A Move of the table in the range of a shrink is the shrink's.
abbrev pub RecordsBelong : Type 0
RecordsBelong =
    (sh : Shape) (scripts : List (List Statement)) (R0 Q R : List Record) (T : List HistoryItem) (r : Record) → is_of_one r ≡ true → IsLegal sh scripts R0 R T → Extends (r ∷ Q) R → length R0 ≤ length Q → Belongs sh scripts T Q r

-- and so does a Move of a table in the range of a shrink of it: also where the shrink is refused
abbrev pub MovesBelong : Type 0
MovesBelong =
    (sh : Shape) (scripts : List (List Statement)) (R0 Q R : List Record) (T : List HistoryItem) (m : MoveRecord) (w : ℕ) (task : Task) (name : List ℕ) (compact : Bool) (b : Belongs sh scripts T Q (made.Move m)) → IsSession scripts w → owner T w (length Q) ≡ Some task
    → statement_of scripts w task.place ≡ Some (asked.Shrink name compact) → table_named Q name ≡ Some m.obj → b.session ≡ w
