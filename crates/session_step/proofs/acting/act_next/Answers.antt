use Rattle.std.specs.Prelude.{None, Option}
use Rattle.std.proofs.Common.{sym, subst}
use Rattle.script_text.specs.declared.statement.Statement.{Statement}
use Rattle.scan_table.specs.Places.{place}
use Rattle.session_step.specs.Turning.{HasTurned, IsTurnOf}
use Rattle.session_step.proofs.Scripts.{got_some, got_none}
use Rattle.session_step.proofs.Turns.{turned_plain}
use Rattle.session_step.proofs.acting.act_next.Goals as goal

pub returns-in-Some-clause-turned : goal.returns-in-Some-clause-turned
returns-in-Some-clause-turned g c = λ x b knows closing t.
    let M = g.D.Disk.meaning in
    let got = got_some c.args.script.now c.args.told c.in-Some.statement.now c.in-Some.ensures.lookup.3.0 c.in-Some.ensures.lookup.1 in
    subst (λ (o : Option Statement). HasTurned M x o c.args.who c.args.scans.now c.act.new.scans c.args.store.now c.act.new.store c.act.result) (sym got)
    (c.act.ensures.turned x b knows (subst (λ (o : Option Statement). IsTurnOf M x o c.args.who c.args.own c.args.labels.now (place c.args.who c.args.scans.now) c.args.doing c.args.store.now) got t))

pub returns-in-None-clause-turned : goal.returns-in-None-clause-turned
returns-in-None-clause-turned g c = λ x b knows closing t.
    let M = g.D.Disk.meaning in
    let p = place c.args.who c.args.scans.now in
    let got = got_none c.args.script.now c.args.told c.in-None.ensures.lookup.3 in
    let u = subst (λ (o : Option Statement). IsTurnOf M x o c.args.who c.args.own c.args.labels.now p c.args.doing c.args.store.now) got t in
    subst (λ (o : Option Statement). HasTurned M x o c.args.who c.args.scans.now c.args.scans.now c.args.store.now c.roll.new.store c.roll.result) (sym got)
    (turned_plain M x None c.args.who c.args.own c.args.labels.now c.args.scans.now c.args.doing c.args.store.now c.roll.new.store c.roll.result tt tt tt u (c.roll.ensures.acted x None c.args.who c.args.labels.now p tt (λ z o. closing got o) u))
