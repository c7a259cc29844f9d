-- What a row record states as its transaction's previous undo address is that of the transaction's next standing record,
-- also after others are taken back.
use Rattle.std.specs.Prelude.{◌≡◌, ℕ, List, [], ◌∷◌}
use Rattle.seg_words.specs.Types.{Shape, By}
use Rattle.redo_model.specs.Records.{Record}
use Rattle.redo_model.specs.Model.{Step, standing, newest_of, undo_of_step, place_of_undo, AreAllowed}

abbrev pub StatesNext : Step → List Step → Type 0
StatesNext st ss = (t : ℕ) → st.by ≡ By t → st.previous ≡ place_of_undo (undo_of_step (newest_of ss t))

-- each of the steps states the next one of its transaction
abbrev pub AreLinked : List Step → Type 0
AreLinked [] = Unit {0}
AreLinked (st ∷ ss) = StatesNext st ss × AreLinked ss

abbrev pub PreviousIsNext : Type 0
PreviousIsNext = (sh : Shape) (R : List Record) → AreAllowed sh R → AreLinked (standing R)
