-- The records of the small runs are those that the definitions here draft: a row is inserted with the first use of undo, is
-- migrated, updated at its body, goes back to its head; rows are deleted, the last one after a Reuse; then undo is full. And the
-- answers are the change, a needed block, a changed row and a busy one.
use Rattle.std.specs.Prelude.{◌≡◌, [], ◌∷◌, drop, Some, None}
use Rattle.redo_model.specs.Records.{Begin}
use Rattle.redo_model.specs.Model.{at_place}
use Rattle.redo_model.specs.Worked.{small, hello, letters, again_at, nine, migrated, updated, filled, returned, half_deleted, reused}
use Rattle.version_laws.specs.Types.{begin_of}
use Rattle.change_laws.specs.Drafts.{insert_of, update_of, migrate_of, return_of, delete_of, Stand, Whole, Apart}
use Rattle.change_laws.specs.Spots.{Here, Full, spot_for, list_at, list_with}
use Rattle.change_laws.specs.Ready.{InPlace, ToHead, ToOther, path_of, updated_blocks}
use Rattle.change_laws.specs.Answers.{Makes, RowChanged, RowBusy, BlockNeeded, update_answer, delete_answer}

-- row 1 of the runs, after it was migrated
abbrev pub moved_row : Stand
moved_row = Apart (at_place 43 0) (at_place 44 0)

pub record ExamplesRight : Type 0 where
  pub begun : Begin (begin_of (drop 5 nine) 1 0 0) ∷ drop 5 nine ≡ drop 4 nine
  pub inserted : list_with small (drop 4 nine) 1 (insert_of (drop 4 nine) 1 43 hello) ≡ Some (drop 2 nine)
  pub away : path_of (drop 1 migrated) (Some 2) (Whole (at_place 43 0)) 400 ≡ ToOther
  pub gone_away : list_with small (drop 1 migrated) 2 (migrate_of (drop 1 migrated) 1 1 (Whole (at_place 43 0)) 44 (letters 400 119)) ≡ Some migrated
  pub in_place : path_of (drop 1 updated) (Some 3) moved_row 500 ≡ InPlace
  pub changed_blocks : updated_blocks (drop 1 updated) (Some 3) moved_row 500 ≡ 44 ∷ []
  pub changed : list_with small (drop 1 updated) 3 (update_of (drop 1 updated) 1 1 moved_row (letters 500 118)) ≡ Some updated
  pub deleted : list_with small (drop 4 filled) 4 (delete_of 1 2 (Whole (at_place 43 1))) ≡ Some (drop 3 filled)
  pub back : path_of (drop 2 returned) (Some 5) moved_row 615 ≡ ToHead
  pub back_blocks : updated_blocks (drop 2 returned) (Some 5) moved_row 615 ≡ 44 ∷ 43 ∷ []
  pub gone_back : list_with small (drop 2 returned) 5 (return_of 1 1 (at_place 43 0) (at_place 44 0) (letters 615 117)) ≡ Some (drop 1 returned)
  pub deleted_after_reuse : list_with small half_deleted 6 (delete_of 1 3 (Whole (at_place 43 2))) ≡ Some reused
  pub here : spot_for small reused 2178 ≡ Here (record again_at { nth = 1 })
  pub full : spot_for small reused 2179 ≡ Full ((38, 6) ∷ [])
  pub no_list : list_at reused 6 (delete_of 1 3 (Whole (at_place 43 2))) (Full ((38, 6) ∷ [])) ≡ None
  pub makes : update_answer small (drop 1 migrated) (Some 2) 1 1 (at_place 43 0) 1 (letters 400 119) (Some 44) ≡ Makes (migrate_of (drop 1 migrated) 1 1 (Whole (at_place 43 0)) 44 (letters 400 119))
  pub needs_block : update_answer small (drop 1 migrated) (Some 2) 1 1 (at_place 43 0) 1 (letters 400 119) None ≡ BlockNeeded 400
  pub row_changed : update_answer small migrated None 1 1 (at_place 43 0) 0 hello None ≡ RowChanged 1
  pub row_busy : update_answer small migrated None 1 1 (at_place 43 0) 1 hello None ≡ RowBusy 2
  pub delete_busy : delete_answer small migrated None 1 1 (at_place 43 0) 1 ≡ RowBusy 2
  pub delete_makes : delete_answer small migrated (Some 2) 1 1 (at_place 44 0) 1 ≡ Makes (delete_of 1 1 moved_row)
