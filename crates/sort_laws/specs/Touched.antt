-- The blocks whose pages an allowed record changes lie in the store.
use Rattle.std.specs.Prelude.{◌≡◌, ℕ, ◌<◌, true, List, ◌∷◌}
use Rattle.seg_words.specs.Types.{Shape, is_shape}
use Rattle.redo_model.specs.Records.{Record}
use Rattle.redo_model.specs.Model.{AreAllowed}
use Rattle.redo_laws.specs.Among.{is_in}
use Rattle.page_model.specs.Types.{touched}

abbrev pub TouchedAreThere : Type 0
TouchedAreThere = (sh : Shape) (R : List Record) (r : Record) (d : ℕ) → is_shape sh ≡ true → AreAllowed sh (r ∷ R) → is_in d (touched sh r) ≡ true → d < sh.blocks
