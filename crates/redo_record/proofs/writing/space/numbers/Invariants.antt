use Rattle.std.proofs.Common.{◌≡◌, ◌++◌, take, flat_map, w32}
use Rattle.redo_record.specs.Types.{big_endian}
use Rattle.redo_record.proofs.writing.space.numbers.Given as goal

abbrev pub invariant-loop-number : goal.invariant-loop-number
invariant-loop-number l = l.out.items ≡ l.fn.out.items ++ flat_map (big_endian w32) (take l.number-index l.numbers)
