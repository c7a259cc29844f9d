use Rattle.std.proofs.Common.{w32}
use Rattle.redo_record.specs.Types.{number}
use Rattle.redo_record.proofs.Loop.{Going}
use Rattle.redo_record.proofs.reading.space.extents_of.Given as goal

abbrev pub invariant-loop : goal.invariant-loop
invariant-loop l = Going (number w32) l.count l.counter l.extents.items l.input l.fn.input
