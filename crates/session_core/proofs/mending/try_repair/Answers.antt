use Rattle.std.proofs.Common.{sym, ◌∙◌, true≢false}
use Rattle.session_core.proofs.Calls.{acted_as, acted_same, called_same}
use Rattle.session_core.proofs.RepairEvents.{repair_full}
use Rattle.session_core.proofs.MakingTables.{first_turns, begun_named, full_begun}
use Rattle.session_core.proofs.mending.try_repair.Goals as goal

pub returns-then-is_log_full-clause-acted : goal.returns-then-is_log_full-clause-acted
returns-then-is_log_full-clause-acted g c = λ x at h there.
    let M = g.D.Disk.meaning in
    let a = c.args.store.now in
    let full = full_begun x c.is_log_full.result h (c.is_log_full.ensures x.ended at.stands.list) in
    acted_as M x _ a a c.refused.result _ c.refused.ensures
    (acted_same M x _ c.args.own a _ at (first_turns a.shape x _ _ c.args.own h (repair_full a.shape x c.args.name.now c.args.obj (begun_named x c.args.name.now _ h there) (full.yes_full c.if-is_log_full.true)) at.own_is))

pub returns-clause-acted : goal.returns-clause-acted
returns-clause-acted g c = λ x at h there. c.list_blocks.ensures.acted x at h there (λ l. true≢false (sym ((c.is_log_full.ensures x.ended at.stands.list).is_full l) ∙ c.if-is_log_full.false))
