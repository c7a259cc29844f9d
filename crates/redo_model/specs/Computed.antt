-- What the definitions compute on the small runs.
use Rattle.std.specs.Prelude.{◌≡◌, ℕ, ◌+◌, true, false, List, [], ◌∷◌, map, length, Some, None}
use Rattle.seg_words.specs.Types.{Fs1, Fs4, By, At, Shrink, new_slot, new_entry}
use Rattle.redo_model.specs.Ordinals.{commit_count, lowering_count}
use Rattle.redo_model.specs.Transactions.{has_ended, commit_number, has_rolled_back}
use Rattle.redo_model.specs.Steps.{standing}
use Rattle.redo_model.specs.Tables.{table_at, view, table_rows}
use Rattle.redo_model.specs.Slots.{image, slot_count, entry, entry_count}
use Rattle.redo_model.specs.Blocks.{free_of, class_of_block, takes_row, is_vacant_block}
use Rattle.redo_model.specs.Versions.{makers, counts, images, row_at, rows_at}
use Rattle.redo_model.specs.Segments.{extents_of, data_blocks, low_mark, high_mark, is_formatted, is_free_extent, under_high, first_unformatted}
use Rattle.redo_model.specs.Kept.{kept_class}
use Rattle.redo_model.specs.Undo.{HeldPart, undo_held, undo_used, undo_sequence, is_reused, undo_holder, next_undo, needed_on}
use Rattle.redo_model.specs.Worked.{small, letters, hello, row_by, head_by, body_by, nine, three, migrated, backed, migrated_for_good, updated, restored_body, filled, returned, left_behind, moved_to, moved, undo_at, again_at, row_5_gone, row_3_gone, half_deleted, reused, lowered}

-- a row is inserted and committed
pub record NineRight : Type 0 where
  pub lsn : length nine ≡ 9
  pub commits : commit_count nine ≡ 1
  pub table : table_rows nine 1 1 ≡ (1, hello) ∷ []
  pub before : table_rows nine 1 0 ≡ []
  pub own : view nine 1 0 1 1 ≡ Some hello
  pub ended : has_ended nine 1 ≡ true
  pub number : commit_number nine 1 ≡ Some 1
  pub slots : slot_count nine 43 ≡ 1
  pub slot : image nine 43 0 ≡ row_by (At 1) 0 1 hello 5
  pub free : free_of nine 43 ≡ 3987
  pub class : class_of_block nine 10 43 ≡ Fs4
  pub kept : kept_class nine 43 ≡ Fs4
  pub entries : entry_count nine 43 ≡ 2
  pub entry : entry nine 43 0 ≡ new_entry
  pub low : low_mark nine 1 ≡ 0
  pub high : high_mark nine 1 ≡ 4
  pub places : data_blocks small nine 1 ≡ 43 ∷ 44 ∷ 45 ∷ 46 ∷ []
  pub formatted : map (is_formatted small nine) (under_high small nine 1) ≡ true ∷ false ∷ false ∷ false ∷ []
  pub unformatted : first_unformatted small nine (under_high small nine 1) ≡ Some 44
  pub free_extents : map (is_free_extent small nine) (0 ∷ 1 ∷ 2 ∷ 3 ∷ []) ≡ false ∷ true ∷ true ∷ false ∷ []
  pub at_0 : rows_at nine 43 0 0 ≡ []
  pub at_1 : rows_at nine 43 1 0 ≡ (1, hello) ∷ []
  pub images : images nine 43 0 ≡ row_by (At 1) 0 1 hello 5 ∷ new_slot ∷ []
  pub undo : undo_used nine 37 ≡ 64

-- a row outgrows its block, and the migration is taken back or committed
pub record MigratedRight : Type 0 where
  pub free_three : free_of three 43 ≡ 222
  pub class_three : class_of_block three 0 43 ≡ Fs1
  pub own : view migrated 1 1 2 1 ≡ Some (letters 400 119)
  pub others : view migrated 1 1 0 1 ≡ Some (letters 100 120)
  pub head : image migrated 43 0 ≡ head_by (By 2) 3 1 44 0 100
  pub body : image migrated 44 0 ≡ body_by (By 2) 4 1 43 0 (letters 400 119) 400
  pub free_head : free_of migrated 43 ≡ 222
  pub free_body : free_of migrated 44 ≡ 3592
  pub at_own : row_at migrated 43 0 1 2 ≡ None
  pub at_own_body : row_at migrated 44 0 1 2 ≡ Some (1, letters 400 119)
  pub at_others : row_at migrated 43 0 1 0 ≡ Some (1, letters 100 120)
  pub at_others_body : row_at migrated 44 0 1 0 ≡ None
  pub holder : undo_holder migrated 37 ≡ Some 2
  pub next : next_undo small migrated ≡ Some 38
  pub used : undo_used migrated 37 ≡ 64 + 64 + 64 + 164 + 64
  pub committed : table_at migrated_for_good 1 2 1 ≡ Some (letters 400 119)
  pub committed_before : table_at migrated_for_good 1 1 1 ≡ Some (letters 100 120)
  pub free_committed : free_of migrated_for_good 43 ≡ 322
  pub back : view backed 1 1 2 1 ≡ Some (letters 100 120)
  pub back_head : image backed 43 0 ≡ row_by (At 1) 0 1 (letters 100 120) 100
  pub back_body : image backed 44 0 ≡ new_slot
  pub back_at : row_at backed 43 0 1 2 ≡ Some (1, letters 100 120)
  pub back_steps : length (standing backed) ≡ 3
  pub rolled_back : has_rolled_back backed 2 ≡ true

-- an update and its rollback, a delete, a return, a move, a lowering
pub record MovedRight : Type 0 where
  pub updated_own : view updated 1 2 3 1 ≡ Some (letters 500 118)
  pub updated_others : row_at updated 44 0 2 0 ≡ Some (1, letters 400 119)
  pub restored : row_at restored_body 44 0 2 0 ≡ Some (1, letters 400 119)
  pub filled_rows : map (λ (x : ℕ × List ℕ). x.0) (table_rows filled 1 3) ≡ 1 ∷ 3 ∷ 4 ∷ 5 ∷ []
  pub filled_before : map (λ (x : ℕ × List ℕ). x.0) (table_rows filled 1 2) ≡ 1 ∷ 2 ∷ 3 ∷ []
  pub free_filled : free_of filled 44 ≡ 212
  pub returned_row : image returned 43 0 ≡ row_by (By 5) 9 1 (letters 615 117) 615
  pub free_returned : free_of returned 43 ≡ 1507
  pub takes : takes_row returned 0 43 1500 Shrink ≡ true
  pub moved_row : image moved 43 1 ≡ moved_to
  pub moved_from : image moved 44 1 ≡ left_behind
  pub moved_table : table_rows moved 1 5 ≡ table_rows returned 1 4
  pub moved_seen : row_at moved 43 1 5 0 ≡ Some (4, letters 1500 97)
  pub moved_seen_before : row_at moved 44 1 4 0 ≡ Some (4, letters 1500 97)
  pub moved_not_twice : row_at moved 43 1 4 0 ≡ None
  pub moved_commits : commit_count moved ≡ 5
  pub lowered_extents : length (extents_of lowered 1) ≡ 1
  pub lowered_high : high_mark lowered 1 ≡ 4
  pub lowerings : lowering_count lowered ≡ 1
  pub vacant : is_vacant_block lowered 45 ≡ true
  pub not_vacant : is_vacant_block lowered 44 ≡ false

-- undo block 37 is taken into use a second time
pub record ReusedRight : Type 0 where
  pub used_before : undo_used half_deleted 37 ≡ 64 + 64 + 64 + 164 + 64 + 464 + 1864 + 64 + 64 + 64 + 464
  pub used_by_move : undo_used moved 38 ≡ 1564 + 64
  pub used_by_both : undo_used half_deleted 38 ≡ 1564 + 64 + 1864
  pub next : next_undo small half_deleted ≡ Some 37
  pub used : undo_used reused 37 ≡ 1854
  pub still_used : undo_used reused 38 ≡ undo_used half_deleted 38
  pub held_before : map (λ (h : HeldPart). h.part.dba) (undo_held half_deleted 38) ≡ 44 ∷ 43 ∷ 44 ∷ []
  pub held : map (λ (h : HeldPart). h.part.dba) (undo_held reused 37) ≡ 43 ∷ []
  pub sequence : undo_sequence reused 37 ≡ 2
  pub holder : undo_holder reused 37 ≡ Some 6
  pub other_holder : undo_holder reused 38 ≡ Some 6
  pub none_next : next_undo small reused ≡ None
  pub not_reused_before : is_reused half_deleted (undo_at 3) ≡ false
  pub reused_now : is_reused reused (undo_at 3) ≡ true
  pub new_not_reused : is_reused reused again_at ≡ false
  pub gone_first : image reused 44 2 ≡ row_5_gone
  pub gone : image reused 43 2 ≡ row_3_gone
  pub own : view reused 1 5 6 5 ≡ None
  pub others : row_at reused 44 2 5 0 ≡ Some (5, letters 1800 98)
  pub needed : needed_on (λ w u. counts reused 5 0 w) (makers reused 43 2) ≡ again_at ∷ []
  pub needed_by_past : needed_on (λ w u. counts reused 1 0 w) (makers reused 43 0) ≡ undo_at 9 ∷ undo_at 3 ∷ []
  pub too_old : map (is_reused reused) (undo_at 9 ∷ undo_at 3 ∷ []) ≡ true ∷ true ∷ []
  pub not_needed : needed_on (λ w u. counts reused 5 0 w) (makers reused 43 0) ≡ []
