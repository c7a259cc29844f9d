-- The page of each block has a spelling of its own: what encoding it writes is read as the same page.
use Rattle.std.specs.Prelude.{◌≡◌, ℕ, suc, ◌<◌, ◌^◌, true, List, length}
use Rattle.seg_words.specs.Types.{Shape, is_shape}
use Rattle.redo_model.specs.Records.{Record}
use Rattle.redo_model.specs.Model.{AreAllowed}
use Rattle.page_set.specs.Pages.{dba_of}
use Rattle.page_set.specs.Spelled.{HasSpelling, spelling_of, meaning_of}
use Rattle.page_set.specs.Folded.{page_of}

pub record PageIsSpelled (sh : Shape) (R : List Record) (d : ℕ) : Type 0 where
  pub number : dba_of (page_of sh R d) ≡ d
  pub spelled : HasSpelling (page_of sh R d)
  pub again : meaning_of d (spelling_of (page_of sh R d)) ≡ page_of sh R d

-- after fewer records than numbers of 64 bits can count, at each block whose number has 32 bits
abbrev pub PagesAreSpelled : Type 0
PagesAreSpelled = (sh : Shape) (R : List Record) (d : ℕ) → is_shape sh ≡ true → suc (length R) < 2 ^ 64 → AreAllowed sh R → d < 2 ^ 32 → PageIsSpelled sh R d
