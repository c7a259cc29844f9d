-- Why rows are spread at all commits, and not at an earlier number for a transaction that changed rows since: a slot that
-- the transaction took anew gives its own row, and no more the one that was deleted from it after that number.
use Rattle.std.specs.Prelude.{◌≡◌, ℕ, ◌<◌, true, List, [], ◌∷◌, map, Some, None}
use Rattle.seg_words.specs.Types.{By}
use Rattle.redo_model.specs.Records.{Record, Insert}
use Rattle.redo_model.specs.Model.{commit_count, is_active, view, rows_at, IsLawful}
use Rattle.redo_model.specs.Worked.{small, letters, hello, begin, change, part, row_by, empty_by, filled}

-- row 2 was deleted by the third commit, and transaction 5 takes its slot for row 6
abbrev pub taken_anew : List Record
taken_anew = Insert (change 5 4 6 9 None (part 43 1 (Some 0) (empty_by (By 4) 6 1800) (row_by (By 5) 9 6 hello 5) ∷ [])) ∷ begin 5 4 ∷ filled

abbrev pub numbers : List (ℕ × List ℕ) → List ℕ
numbers rows = map (λ (x : ℕ × List ℕ). x.0) rows

pub record PastIsLost : Type 0 where
  pub lawful : IsLawful small taken_anew
  pub active : is_active taken_anew 5 ≡ true
  pub earlier : 2 < commit_count taken_anew
  pub viewed : view taken_anew 1 2 5 2 ≡ Some (letters 1800 121)
  pub first_block : numbers (rows_at taken_anew 43 2 5) ≡ 6 ∷ 3 ∷ []
  pub second_block : numbers (rows_at taken_anew 44 2 5) ≡ 1 ∷ []
