use Rattle.std.proofs.Common.{ℕ, List, Option, Some, map, ap, ◌∙◌}
use Rattle.seg_words.specs.Types.{ListEntry}
use Rattle.row_change.specs.Lacking.{lack_by}
use Rattle.row_change.proofs.lacking.lack_by.Goals as goal

pub returns-in-Some : goal.returns-in-Some
returns-in-Some c = ap (λ (o : Option ℕ). lack_by o (map (λ (e : ListEntry). e.txn) c.args.block.now.block.entries)) c.in-Some.ensures.value

pub returns-in-Ok : goal.returns-in-Ok
returns-in-Ok c = ap (λ (ns : List ℕ). Some ns) c.in-Ok.ensures ∙ ap (λ (o : Option ℕ). lack_by o (map (λ (e : ListEntry). e.txn) c.args.block.now.block.entries)) c.in-None.ensures.value
