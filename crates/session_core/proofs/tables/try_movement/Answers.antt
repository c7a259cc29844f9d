use Rattle.std.proofs.Common.{sym, ◌∙◌, ap, Bool}
use Rattle.session_core.specs.Tests.{tested_movement}
use Rattle.session_core.proofs.Calls.{acted_as, acted_same}
use Rattle.session_core.proofs.Checks.{movement_tested}
use Rattle.session_core.proofs.MakingTables.{first_turns, at_begun, full_begun, begun_named, tested_err, tested_ok}
use Rattle.session_core.proofs.tables.try_movement.Goals as goal

pub returns-in-Ok-clause-acted : goal.returns-in-Ok-clause-acted
returns-in-Ok-clause-acted g c = λ x at h busy there.
    let M = g.D.Disk.meaning in
    let a = c.args.store.now in
    let full = c.is_log_full-full.result in
    let tested = movement_tested a.shape x c.args.table.now c.args.on c.args.obj c.args.own c.args.busy full (begun_named x c.args.table.now _ h there) (at_begun M x c.args.own a at h) (full_begun x full h (c.is_log_full-full.ensures x.ended at.stands.list)) busy in
    let is = sym (c.in-Ok.ensures ∙ ap (λ (w : Bool). tested_movement w c.args.busy full) c.is_some.ensures) in
    c.switch_movement.ensures.acted x at h there (tested_ok a.shape x _ _ c.in-Ok.field-0 is tested)

pub returns-in-Err-clause-acted : goal.returns-in-Err-clause-acted
returns-in-Err-clause-acted g c = λ x at h busy there.
    let M = g.D.Disk.meaning in
    let a = c.args.store.now in
    let full = c.is_log_full-full.result in
    let tested = movement_tested a.shape x c.args.table.now c.args.on c.args.obj c.args.own c.args.busy full (begun_named x c.args.table.now _ h there) (at_begun M x c.args.own a at h) (full_begun x full h (c.is_log_full-full.ensures x.ended at.stands.list)) busy in
    let is = sym (c.in-Err.ensures ∙ ap (λ (w : Bool). tested_movement w c.args.busy full) c.is_some.ensures) in
    acted_as M x _ a a c.refused.result _ c.refused.ensures (acted_same M x _ c.args.own a _ at (first_turns a.shape x _ c.in-Err.refusal c.args.own h (tested_err a.shape x _ _ c.in-Err.refusal is tested) at.own_is))
