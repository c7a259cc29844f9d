-- For each kind of record a list after which it is not allowed, for the reason that its row of the definition gives.
use Rattle.std.specs.Prelude.{ℕ, true, List, [], ◌∷◌, drop, Some, None}
use Rattle.seg_words.specs.Types.{Fs4, By, At, new_slot}
use Rattle.redo_model.specs.Records.{Record, Movement, Extend, Lower, Begin, Reuse, Update, Migrate, Return, Delete, Back, Ended, Move, RowBody}
use Rattle.redo_model.specs.Lawful.{IsAllowed}
use Rattle.redo_model.specs.Worked.{small, hello, undo_at, place_at, row_by, empty_by, part, change, insert, table_t, extend_by, advance_4, format_block, class_to, commit, clean, nine, three, migrated, backed, lowered}

-- session 2 begins transaction 3 beside transaction 2
abbrev pub beside : List Record
beside = Begin (record { txn = 3; session = 2; entry = 2; control = 0 }) ∷ migrated

-- transaction 3 on row n, of which it has no old image right: the reasons below come before that
abbrev pub by_3 : ℕ → RowBody
by_3 n = change 3 2 n 5 None (part 43 0 (Some 0) new_slot (row_by (By 3) 5 n hello 5) ∷ [])

pub record NotAllowed : Type 0 where
  pub table_of_a_name_that_is_there : IsAllowed small nine (table_t 10) → ⊥
  pub movement_of_no_table : IsAllowed small nine (Movement (record { obj = 2; header = 42; on = true })) → ⊥
  pub extend_past_the_least_free : IsAllowed small (drop 2 lowered) (Extend (record { obj = 1; header = 42; index = 1; extent = 2; l2 = 40; l3 = 41 })) → ⊥
  pub extend_over_unformatted_blocks : IsAllowed small nine (extend_by 1) → ⊥
  pub format_out_of_order : IsAllowed small nine (format_block 45) → ⊥
  pub class_that_is_kept : IsAllowed small nine (class_to 43 Fs4 5) → ⊥
  pub advance_past_unformatted_blocks : IsAllowed small nine advance_4 → ⊥
  pub lower_of_nothing : IsAllowed small nine (Lower (record { obj = 1; header = 42; lowering = 1; kept = 1; low = 0; high = 4; l2 = Some 40 ∷ None ∷ None ∷ []; l3 = 41; bests = 5 ∷ 0 ∷ 0 ∷ []; released = [] })) → ⊥
  pub begin_in_an_open_session : IsAllowed small migrated (Begin (record { txn = 3; session = 1; entry = 2; control = 0 })) → ⊥
  pub begin_with_a_number_used_before : IsAllowed small nine (Begin (record { txn = 1; session = 1; entry = 1; control = 0 })) → ⊥
  pub begin_with_a_later_entry : IsAllowed small nine (Begin (record { txn = 2; session = 1; entry = 2; control = 0 })) → ⊥
  pub reuse_of_the_current_block : IsAllowed small nine (Reuse (record { block = 37; sequence = 2 })) → ⊥
  pub reuse_beside_room : IsAllowed small (Reuse (record { block = 38; sequence = 1 }) ∷ migrated) (insert 2 1 0 4 43 3 5 (place_at 3) hello) → ⊥
  pub insert_with_a_number_used_before : IsAllowed small (drop 2 nine) (insert 1 0 0 1 43 1 1 (place_at 0) hello) → ⊥
  pub update_of_a_row_that_is_not_there : IsAllowed small beside (Update (by_3 4)) → ⊥
  pub update_over_an_active_writer : IsAllowed small beside (Update (by_3 1)) → ⊥
  pub migrate_over_an_active_writer : IsAllowed small beside (Migrate (by_3 1)) → ⊥
  pub return_over_an_active_writer : IsAllowed small beside (Return (by_3 1)) → ⊥
  pub delete_over_an_active_writer : IsAllowed small beside (Delete (by_3 1)) → ⊥
  pub commit_after_a_back : IsAllowed small (drop 1 backed) (commit 2 1 2) → ⊥
  pub commit_with_a_number_given_before : IsAllowed small migrated (commit 2 1 1) → ⊥
  pub back_of_an_older_record : IsAllowed small (drop 3 three) (Back (record { txn = 1; entry = 0; obj = 1; row = 2; undo = undo_at 1; previous = place_at 0; parts = record { dba = 43; slot = 1; entry = Some 0; new = new_slot } ∷ []; last = Some (undo_at 0) })) → ⊥
  pub ended_with_a_record_left : IsAllowed small migrated (Ended (record { txn = 2; entry = 1 })) → ⊥
  pub move_without_row_movement : IsAllowed small nine (Move (record { obj = 1; row = 1; undo = undo_at 1; number = 2; parts = part 43 0 None (row_by (At 1) 0 1 hello 5) (empty_by (At 2) 1 0) ∷ [] })) → ⊥
  pub clean_of_an_active_transaction : IsAllowed small (drop 2 nine) (clean 43 1 1) → ⊥
