use Rattle.std.proofs.Common.{rules}
use Rattle.std.proofs.lemmas.List.Sorted.{IsNonDecreasingBy-from_sort_by_key}
use Rattle.history_text.specs.declared.outcome.RowOut.{RowOut}
use Rattle.scan_table.proofs.Sorting.{sorts}
use Rattle.scan_table.proofs.rows.in_order.Goals as goal

pub returns : goal.returns
returns c = sorts c.args.rows.items _ c.sort_unstable_by_key.ensures.permutation (IsNonDecreasingBy-from_sort_by_key (λ (r : RowOut). r.row) _ c.sort_unstable_by_key.ensures.sorted (λ a r q k. search rules))
