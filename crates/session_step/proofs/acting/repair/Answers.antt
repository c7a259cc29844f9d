use Rattle.std.proofs.Common.{sym, ◌∙◌}
use Rattle.session_step.proofs.Starting.{repair_goes_on, repair_starts}
use Rattle.session_step.proofs.acting.repair.Goals as goal

pub returns-in-Some-clause-acted : goal.returns-in-Some-clause-acted
returns-in-Some-clause-acted g c = λ x who labels p b t. c.go_on_repairing.ensures.acted x t.at (repair_goes_on g.D.Disk.meaning x who c.args.own labels p c.args.doing c.args.store.now c.args.table.now c.args.begins c.in-Some.work b (sym c.repairing_in.ensures ∙ c.in-Some.is) t)

pub returns-in-None-clause-acted : goal.returns-in-None-clause-acted
returns-in-None-clause-acted g c = λ x who labels p b t. c.start_repair.ensures.acted x t.at (repair_starts g.D.Disk.meaning x who c.args.own labels p c.args.doing c.args.store.now c.args.table.now (sym c.repairing_in.ensures ∙ c.in-None.is) t)
