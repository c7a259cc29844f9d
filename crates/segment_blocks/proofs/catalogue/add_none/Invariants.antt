use Rattle.std.proofs.Common.{◌≡◌, ◌++◌, replicate}
use Rattle.segment_blocks.specs.Catalogues.{no_table}
use Rattle.segment_blocks.proofs.catalogue.add_none.Given as goal

abbrev pub invariant-loop : goal.invariant-loop
invariant-loop l = l.entries.items ≡ l.fn.entries.items ++ replicate l.counter no_table
