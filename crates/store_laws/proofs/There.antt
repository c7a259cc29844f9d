-- Each block that an allowed record touches is a block of the store.
use Rattle.std.proofs.Common.{◌≡◌, ℕ, ◌<◌, true, List, ◌∷◌, sym, ◌∙◌}
use Rattle.seg_base.specs.declared.shape.Shape.{Shape}
use Rattle.seg_base.specs.Places.{is_shape}
use Rattle.redo_record.specs.declared.record.Record.{Record}
use Rattle.redo_model.specs.Lawful.{AreAllowed}
use Rattle.page_set.specs.Among.{is_among}
use Rattle.page_set.specs.Folded.{touched}
use Rattle.sort_laws.proofs.TouchedLaw.{touched_are_there}
use Rattle.page_fit.proofs.Sorted.{among_same}

pub all_there : (sh : Shape) (R : List Record) (r : Record) (d : ℕ) → is_shape sh ≡ true → AreAllowed sh (r ∷ R) → is_among (touched sh r) d ≡ true → d < sh.blocks
all_there sh R r d s h y = touched_are_there sh R r d s h (sym (among_same (touched sh r) d) ∙ y)
