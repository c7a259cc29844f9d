-- A row that was inserted and committed, settled: in a small store with a table of PCTFREE 10 a row of five bytes leaves its
-- block in the best class, and in one of PCTFREE 0 one of the longest rows takes it a class down.
use Rattle.std.specs.Prelude.{◌≡◌, List, [], ◌∷◌, None}
use Rattle.seg_words.specs.Types.{Fs3, class_code, LONGEST_ROW}
use Rattle.redo_model.specs.Records.{Record, Class, Clean}
use Rattle.redo_model.specs.Worked.{small, letters, hello, table_t, extend_by, advance_4, format_block, begin, reuse_37, insert, commit}
use Rattle.usage_laws.specs.Drafts.{settled}

abbrev pub short_row : List Record
short_row = commit 1 0 1 ∷ insert 1 0 0 1 43 0 0 None hello ∷ reuse_37 ∷ begin 1 0 ∷ format_block 43 ∷ advance_4 ∷ extend_by 0 ∷ table_t 10 ∷ []

abbrev pub long_row : List Record
long_row = commit 1 0 1 ∷ insert 1 0 0 1 43 0 0 None (letters LONGEST_ROW 120) ∷ reuse_37 ∷ begin 1 0 ∷ format_block 43 ∷ advance_4 ∷ extend_by 0 ∷ table_t 0 ∷ []

pub record SettledRight : Type 0 where
  pub short : settled small short_row 1 43 ≡ Clean (record { dba = 43; ended = (1, 1) ∷ [] }) ∷ short_row
  pub long : settled small long_row 1 43 ≡ Class (record { obj = 1; dba = 43; class = Fs3; l2 = 40; l3 = 41; index = 0; best_of_l1 = class_code Fs3; best_of_l2 = class_code Fs3 }) ∷ Clean (record { dba = 43; ended = (1, 1) ∷ [] }) ∷ long_row
