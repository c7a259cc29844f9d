-- The pages of the three levels after two of the small runs, and what the model says there.
use Rattle.std.specs.Prelude.{◌≡◌, ◌-◌, List, [], ◌∷◌, length, map, replicate}
use Rattle.redo_record.specs.declared.record.Record.{Record}
use Rattle.redo_model.specs.Kept.{best_in_l1, best_in_l2}
use Rattle.redo_model.specs.Worked.{small, three, extend_by, format_block, moved, lowered}
use Rattle.page_set.specs.declared.page.Page.TheVariants.{First, Second, Third}
use Rattle.page_set.specs.Folded.{page_of}
use Rattle.page_says.specs.Levels.{told_code}

-- before marks are lowered: the table has two extents
abbrev pub extended : List Record
extended = extend_by 1 ∷ format_block 46 ∷ format_block 45 ∷ moved

pub record LevelsRight : Type 0 where
  -- one block is formatted, with less than half of its room free
  pub first : page_of small three 39 ≡ First (record { dba = 39; lsn = 13; incarnation = 2; codes = 0 ∷ 0 ∷ 0 ∷ 0 ∷ 2 ∷ replicate 59 0 })
  pub second : page_of small three 40 ≡ Second (record { dba = 40; lsn = 13; codes = 2 ∷ replicate 299 0 })
  pub third : page_of small three 41 ≡ Third (record { dba = 41; lsn = 13; codes = 2 ∷ 0 ∷ 0 ∷ [] })
  pub told : map (told_code small three 0 0) (39 ∷ 40 ∷ 41 ∷ 42 ∷ 43 ∷ 44 ∷ 45 ∷ 46 ∷ 47 ∷ []) ≡ 0 ∷ 0 ∷ 0 ∷ 0 ∷ 2 ∷ 0 ∷ 0 ∷ 0 ∷ 0 ∷ []
  pub l1 : map (best_in_l1 small three 1) (0 ∷ 1 ∷ []) ≡ 2 ∷ 0 ∷ []
  pub l2 : map (best_in_l2 small three 1) (0 ∷ 300 ∷ 600 ∷ []) ≡ 2 ∷ 0 ∷ 0 ∷ []
  -- all four are, and the table gets a second extent
  pub first_extended : page_of small extended 39 ≡ First (record { dba = 39; lsn = length extended - 1; incarnation = 2; codes = 0 ∷ 0 ∷ 0 ∷ 0 ∷ 2 ∷ 5 ∷ 5 ∷ 5 ∷ replicate 56 0 })
  pub next_extended : page_of small extended 47 ≡ First (record { dba = 47; lsn = length extended; incarnation = length extended; codes = replicate 64 0 })
  pub second_extended : page_of small extended 40 ≡ Second (record { dba = 40; lsn = length extended; codes = 5 ∷ replicate 299 0 })
  -- it is released again
  pub second_lowered : page_of small lowered 40 ≡ Second (record { dba = 40; lsn = length lowered; codes = 5 ∷ replicate 299 0 })
  pub third_lowered : page_of small lowered 41 ≡ Third (record { dba = 41; lsn = length lowered; codes = 5 ∷ 0 ∷ 0 ∷ [] })
