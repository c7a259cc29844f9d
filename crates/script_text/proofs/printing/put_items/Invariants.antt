use Rattle.std.proofs.Common.{◌≡◌, ◌++◌, drop}
use Rattle.script_text.specs.Spelled.{items_text}
use Rattle.script_text.proofs.printing.put_items.Given as goal

abbrev pub invariant-loop-turns : goal.invariant-loop-turns
invariant-loop-turns l = l.out.items ++ items_text (drop l.turns-index l.schedule) ≡ l.fn.out.items ++ items_text l.schedule
