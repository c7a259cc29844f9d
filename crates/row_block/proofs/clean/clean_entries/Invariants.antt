use Rattle.std.proofs.Common.{◌≡◌, ◌++◌, map, take, drop}
use Rattle.seg_words.specs.Types.{clean_entry}
use Rattle.row_block.proofs.clean.clean_entries.Given as goal

abbrev pub invariant-loop-entry : goal.invariant-loop-entry
invariant-loop-entry l = l.entry-items ≡ map (clean_entry l.done) (take l.entry-index l.fn.entries) ++ drop l.entry-index l.fn.entries
