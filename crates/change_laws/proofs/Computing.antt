-- The drafts of the small runs compute.
use Rattle.std.proofs.Common.{refl}
use Rattle.change_laws.specs.Examples.{ExamplesRight}

pub examples_right : ExamplesRight
examples_right = record { begun = refl; inserted = refl; away = refl; gone_away = refl; in_place = refl; changed_blocks = refl; changed = refl; deleted = refl; back = refl; back_blocks = refl; gone_back = refl; deleted_after_reuse = refl; here = refl; full = refl; no_list = refl; makes = refl; needs_block = refl; row_changed = refl; row_busy = refl; delete_busy = refl; delete_makes = refl }
