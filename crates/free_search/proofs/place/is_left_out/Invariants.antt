use Rattle.std.proofs.Common.{◌≡◌, false, take}
use Rattle.mark_laws.specs.Searches.{is_left_out}
use Rattle.free_search.proofs.place.is_left_out.Given as goal

abbrev pub invariant-loop-block : goal.invariant-loop-block
invariant-loop-block l = is_left_out (take l.block-index l.but) l.dba ≡ false
