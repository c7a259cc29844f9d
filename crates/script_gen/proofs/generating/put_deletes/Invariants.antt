use Rattle.std.proofs.Common.{◌≡◌, ◌++◌}
use Rattle.script_text.specs.Spelled.{statement_lines}
use Rattle.script_gen.specs.Generated.{deletes_to}
use Rattle.script_gen.proofs.generating.put_deletes.Given as goal

abbrev pub invariant-loop-before : goal.invariant-loop-before
invariant-loop-before l = l.out.items ≡ l.fn.out.items ++ statement_lines (deletes_to l.before)
