-- Two small histories that are legal, the second of two sessions whose events alternate, and some that are not.
use Rattle.std.specs.Prelude.{ℕ, true, List, [], ◌∷◌, Some, None}
use Rattle.seg_words.specs.Types.{By, At, Slot, Writer}
use Rattle.redo_model.specs.Records.{Record, Lower, Begin, Update}
use Rattle.redo_model.specs.Model.{prefix}
use Rattle.redo_model.specs.Worked.{small, hello, row_by, part, change, insert, table_t, movement_on, extend_by, advance_4, format_block, begin, commit, reuse_37, clean, nine}
use Rattle.script_text.specs.declared.statement.Statement.{Statement}
use Rattle.script_text.specs.declared.statement.Statement.TheVariants as asked
use Rattle.script_text.specs.declared.statement.Target.TheVariants.{Label}
use Rattle.history_text.specs.declared.outcome.Outcome.{Outcome}
use Rattle.history_text.specs.declared.outcome.Outcome.TheVariants as told
use Rattle.history_text.specs.declared.outcome.RowOut.{RowOut}
use Rattle.history_text.specs.declared.outcome.Stop.TheVariants.{Bottom}
use Rattle.history_text.specs.declared.refusal.Refusal.TheVariants as why
use Rattle.history_model.specs.declared.history.Kept.TheVariants as kept
use Rattle.history_model.specs.declared.history.HistoryItem.{HistoryItem}
use Rattle.history_model.specs.declared.history.HistoryItem.TheVariants as item
use Rattle.history_model.specs.Legal.{AreTold, IsLegal}
use Rattle.history_model.specs.Running.{IsRunning}

abbrev pub name_t : List ℕ
name_t = 116 ∷ []

abbrev pub label_a : List ℕ
label_a = 97 ∷ []

-- a statement of session w starts after so many records
abbrev pub start_at : ℕ → ℕ → HistoryItem
start_at w begins = item.Started (record { session = w; begins = begins })

-- it leads to this after so many
abbrev pub told_at : ℕ → ℕ → ℕ → ℕ → Outcome → HistoryItem
told_at w ordinal begins ends outcome = item.Told (record { session = w; ordinal = Some ordinal; begins = begins; ends = ends; moment = 0; outcome = outcome }) kept.Nothing

abbrev pub row_1 : List ℕ → RowOut
row_1 bytes = record { row = 1; bytes = bytes }

-- ---- one session: a table, a row, its commit, a scan; between the commit and the scan the block is settled

abbrev pub one_script : List (List Statement)
one_script = (asked.Table name_t 10 ∷ asked.Insert name_t label_a hello ∷ asked.Commit ∷ asked.Scan name_t ∷ []) ∷ []

abbrev pub one_inserted : List HistoryItem
one_inserted = told_at 1 2 2 7 (told.Inserted 1) ∷ start_at 1 2 ∷ told_at 1 1 0 2 (told.Table name_t) ∷ start_at 1 0 ∷ []

abbrev pub one_history : List HistoryItem
one_history = told_at 1 4 9 9 (told.Scan name_t 1 (row_1 hello ∷ [])) ∷ start_at 1 9 ∷ told_at 1 3 7 8 (told.Committed 1) ∷ start_at 1 7 ∷ one_inserted

-- ---- two sessions on one row: session 2 finds it busy, then, after the commit of session 1, changes it

abbrev pub text_one : List ℕ
text_one = 111 ∷ 110 ∷ 101 ∷ []

abbrev pub text_two : List ℕ
text_two = 116 ∷ 119 ∷ 111 ∷ []

abbrev pub text_three : List ℕ
text_three = 116 ∷ 104 ∷ 114 ∷ 101 ∷ 101 ∷ []

abbrev pub update_a : List ℕ → Statement
update_a text = asked.Update name_t (Label label_a) text

abbrev pub two_scripts : List (List Statement)
two_scripts =
    (asked.Table name_t 10 ∷ asked.Insert name_t label_a text_one ∷ asked.Commit ∷ update_a text_two ∷ asked.Commit ∷ [])
    ∷ (update_a text_three ∷ update_a text_three ∷ asked.Commit ∷ asked.Scan name_t ∷ [])
    ∷ []

-- the row as transaction t, or a commit, left it
abbrev pub row_two : Writer → Slot
row_two w = row_by w 1 1 text_two 3

abbrev pub two_records : List Record
two_records =
    clean 43 3 3
    ∷ commit 3 2 3
    ∷ Update (change 3 2 1 2 None (part 43 0 (Some 0) (row_two (At 2)) (row_by (By 3) 2 1 text_three 5) ∷ []))
    ∷ Begin (record { txn = 3; session = 2; entry = 2; control = 0 })
    ∷ clean 43 2 2
    ∷ commit 2 1 2
    ∷ Update (change 2 1 1 1 None (part 43 0 (Some 0) (row_by (At 1) 0 1 text_one 3) (row_two (By 2)) ∷ []))
    ∷ begin 2 1
    ∷ clean 43 1 1
    ∷ commit 1 0 1
    ∷ insert 1 0 0 1 43 0 0 None text_one
    ∷ reuse_37
    ∷ begin 1 0
    ∷ format_block 43
    ∷ advance_4
    ∷ extend_by 0
    ∷ table_t 10
    ∷ []

abbrev pub two_history : List HistoryItem
two_history =
    told_at 2 4 17 17 (told.Scan name_t 3 (row_1 text_three ∷ []))
    ∷ start_at 2 17
    ∷ told_at 2 3 15 16 (told.Committed 3)
    ∷ start_at 2 15
    ∷ told_at 2 2 13 15 (told.Updated 1)
    ∷ start_at 2 13
    ∷ told_at 1 5 11 12 (told.Committed 2)
    ∷ start_at 1 11
    ∷ told_at 2 1 11 11 (told.Refused (why.Busy 2))
    ∷ start_at 2 11
    ∷ told_at 1 4 9 11 (told.Updated 1)
    ∷ start_at 1 9
    ∷ told_at 1 3 7 8 (told.Committed 1)
    ∷ start_at 1 7
    ∷ one_inserted

pub record HistoriesAreLegal : Type 0 where
  pub one : IsLegal small one_script [] nine one_history
  pub two : IsLegal small two_scripts [] two_records two_history

-- ---- refused

-- two scripts: the second one scans beside the open transaction of the first
abbrev pub beside_scripts : List (List Statement)
beside_scripts = (asked.Table name_t 10 ∷ asked.Insert name_t label_a hello ∷ asked.Commit ∷ []) ∷ (asked.Scan name_t ∷ []) ∷ []

abbrev pub IsRefused : List (List Statement) → List Record → List HistoryItem → Type 0
IsRefused scripts R T = AreTold small scripts 0 R T → ⊥

-- a script that asks for row movement beside its open transaction
abbrev pub moved_script : List (List Statement)
moved_script = (asked.Table name_t 10 ∷ asked.Insert name_t label_a hello ∷ asked.Movement name_t true ∷ []) ∷ []

abbrev pub table_told : HistoryItem
table_told = told_at 1 1 0 2 (told.Table name_t)

abbrev pub table_made : List HistoryItem
table_made = table_told ∷ start_at 1 0 ∷ []

-- a script that only compacts, and a lowering
abbrev pub compact_script : List (List Statement)
compact_script = (asked.Table name_t 10 ∷ asked.Shrink name_t true ∷ []) ∷ []

abbrev pub compacted : HistoryItem
compacted = item.Told (record { session = 1; ordinal = Some 2; begins = 2; ends = 3; moment = 0; outcome = told.Compacted name_t 0 0 Bottom }) (kept.Stopped [] 2)

abbrev pub lowering : Record
lowering = Lower (record { obj = 1; header = 42; lowering = 1; kept = 1; low = 0; high = 0; l2 = Some 40 ∷ None ∷ None ∷ []; l3 = 41; bests = 0 ∷ 0 ∷ 0 ∷ []; released = 1 ∷ [] })

pub record HistoriesAreRefused : Type 0 where
  pub commit_told_before_its_record : IsRefused one_script nine (told_at 1 3 7 7 (told.Committed 1) ∷ start_at 1 7 ∷ one_inserted)
  pub two_statements_under_way : IsRefused one_script nine (start_at 1 7 ∷ start_at 1 2 ∷ table_made)
  pub uncommitted_row_shown : IsRefused beside_scripts (prefix nine 7) (told_at 2 1 7 7 (told.Scan name_t 0 (row_1 hello ∷ [])) ∷ start_at 2 7 ∷ one_inserted)
  pub session_of_no_script : IsRefused one_script nine (start_at 2 7 ∷ one_inserted)
  pub table_refused_beside_none : IsRefused one_script nine (told_at 1 2 2 2 (told.Refused why.NoTable) ∷ start_at 1 2 ∷ table_made)
  pub refused_with_its_work_done : IsRefused moved_script (movement_on ∷ prefix nine 7) (told_at 1 3 7 8 (told.Refused why.TransactionOpen) ∷ start_at 1 7 ∷ one_inserted)
  pub row_left_out : IsRefused one_script nine (told_at 1 4 9 9 (told.Scan name_t 1 []) ∷ start_at 1 9 ∷ told_at 1 3 7 8 (told.Committed 1) ∷ start_at 1 7 ∷ one_inserted)
  pub entry_told_twice : IsRefused one_script nine (table_told ∷ table_made)
  pub statement_told_again : IsRefused one_script nine (told_at 1 1 2 2 (told.Table name_t) ∷ start_at 1 2 ∷ table_made)
  pub record_of_nobody : IsLegal small one_script [] (prefix nine 7) table_made → ⊥
  pub row_made_and_not_told : (moment : ℕ) → IsRunning small one_script [] (prefix nine 7) (start_at 1 2 ∷ table_made) moment → ⊥
  pub lowered_by_a_compaction : IsRefused compact_script (lowering ∷ extend_by 0 ∷ table_t 10 ∷ []) (compacted ∷ start_at 1 2 ∷ table_made)
