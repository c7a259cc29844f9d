use Rattle.std.proofs.Common.{◌≡◌, ◌++◌, take, flat_map}
use Rattle.redo_record.specs.Types.{back_part}
use Rattle.redo_record.proofs.writing.row.each_back_part.Given as goal

abbrev pub invariant-loop-part : goal.invariant-loop-part
invariant-loop-part l = l.out.items ≡ l.fn.out.items ++ flat_map back_part (take l.part-index l.parts)
