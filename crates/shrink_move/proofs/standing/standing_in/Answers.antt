use Rattle.std.proofs.Common.{◌≡◌, Option, ◌∙◌}
use Rattle.shrink_move.specs.declared.standing.Standing.{Standing}
use Rattle.shrink_move.specs.Asked.{standing_at, standing_in}
use Rattle.shrink_move.proofs.Nexts.{answer_on}
use Rattle.shrink_move.proofs.Stood.{standing_same}
use Rattle.shrink_move.proofs.standing.standing_in.Goals as goal

pub returns-in-Rows : goal.returns-in-Rows
returns-in-Rows c =
    let q = c.args.q.now in
    answer_on c.standing_at.result (λ (x : Option Standing). x ≡ standing_at q.dba c.slot_or-slot.result c.in-Rows.block.block) (λ (x : Option Standing). x ≡ standing_in q.table.now q.dba q.slot c.args.page.now)
    (λ x e. e ∙ standing_same q.table.now c.of-ended.result.table.now q.dba c.slot_or-slot.result q.slot c.args.page.now c.in-Rows.block c.in-Rows.is c.of-ended.ensures c.slot_or-slot.ensures) c.standing_at.ensures
