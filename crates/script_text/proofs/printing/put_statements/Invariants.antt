use Rattle.std.proofs.Common.{◌≡◌, ◌++◌, drop}
use Rattle.script_text.specs.Spelled.{statement_lines}
use Rattle.script_text.proofs.printing.put_statements.Given as goal

abbrev pub invariant-loop-statement : goal.invariant-loop-statement
invariant-loop-statement l = l.out.items ++ statement_lines (drop l.statement-index l.statements) ≡ l.fn.out.items ++ statement_lines l.statements
