use Rattle.std.proofs.Common.{◌≡◌, ◌++◌}
use Rattle.script_text.specs.Spelled.{statement_lines}
use Rattle.script_gen.specs.Drawn.{nth_number}
use Rattle.script_gen.specs.Generated.{inserts_to}
use Rattle.script_gen.proofs.generating.put_inserts.Given as goal

abbrev pub invariant-loop-before : goal.invariant-loop-before
invariant-loop-before l = record {
  drew : l.x ≡ nth_number l.number l.before;
  put : l.out.items ≡ l.fn.out.items ++ statement_lines (inserts_to l.number l.rows l.before);
}
