use Rattle.std.proofs.Common.{◌≡◌, ◌++◌, drop}
use Rattle.history_text.specs.Refusals.{holders_text}
use Rattle.history_text.proofs.refused.put_holders.Given as goal

abbrev pub invariant-loop-block : goal.invariant-loop-block
invariant-loop-block l = l.out.items ++ holders_text (drop l.block-index l.holders) ≡ l.fn.out.items ++ holders_text l.holders
