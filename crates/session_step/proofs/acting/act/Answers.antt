use Rattle.std.specs.Prelude.{Some}
use Rattle.std.proofs.Common.{sym}
use Rattle.history_laws.proofs.Owned.{none_some}
use Rattle.script_text.specs.declared.statement.Statement.TheVariants as asked
use Rattle.scan_table.specs.Places.{place}
use Rattle.session_step.proofs.Starting.{turn_as, once_starts, once_waiting}
use Rattle.session_step.proofs.Sizes.{insert_size, update_size}
use Rattle.session_step.proofs.Turns.{turned_as, turned_plain, turned_so}
use Rattle.session_step.proofs.acting.act.Goals as goal

pub returns-in-Table-clause-turned : goal.returns-in-Table-clause-turned
returns-in-Table-clause-turned g c = λ x b knows t.
    let M = g.D.Disk.meaning in
    let a = c.args.store.now in
    let d = c.args.doing in
    let s = c.args.scans.now in
    let p = place c.args.who s in
    let l = c.args.labels.now in
    let st = asked.Table c.in-Table.name c.in-Table.pctfree in
    let u = turn_as M x c.args.who c.args.own l p d a c.args.statement.now st c.in-Table.is t in
    turned_as M x c.args.statement.now st c.args.who s s a c.make_table.new.store c.make_table.result c.in-Table.is
    (turned_plain M x (Some st) c.args.who c.args.own l s d a c.make_table.new.store c.make_table.result tt tt tt u
    (c.make_table.ensures.acted x u.at (once_starts M x c.args.who c.args.own l p d a st tt u)))

pub returns-in-Movement-clause-turned : goal.returns-in-Movement-clause-turned
returns-in-Movement-clause-turned g c = λ x b knows t.
    let M = g.D.Disk.meaning in
    let a = c.args.store.now in
    let d = c.args.doing in
    let s = c.args.scans.now in
    let p = place c.args.who s in
    let l = c.args.labels.now in
    let st = asked.Movement c.in-Movement.table c.in-Movement.on in
    let u = turn_as M x c.args.who c.args.own l p d a c.args.statement.now st c.in-Movement.is t in
    turned_as M x c.args.statement.now st c.args.who s s a c.set_movement.new.store c.set_movement.result c.in-Movement.is
    (turned_plain M x (Some st) c.args.who c.args.own l s d a c.set_movement.new.store c.set_movement.result tt tt tt u
    (c.set_movement.ensures.acted x u.at (once_starts M x c.args.who c.args.own l p d a st tt u) (knows (once_waiting M x c.args.who c.args.own l p d a st tt u))))

pub returns-in-Insert-clause-turned : goal.returns-in-Insert-clause-turned
returns-in-Insert-clause-turned g c = λ x b knows t.
    let M = g.D.Disk.meaning in
    let a = c.args.store.now in
    let d = c.args.doing in
    let s = c.args.scans.now in
    let p = place c.args.who s in
    let l = c.args.labels.now in
    let st = asked.Insert c.in-Insert.table c.in-Insert.label c.in-Insert.text in
    let u = turn_as M x c.args.who c.args.own l p d a c.args.statement.now st c.in-Insert.is t in
    turned_as M x c.args.statement.now st c.args.who s s a c.insert.new.store c.insert.result c.in-Insert.is
    (turned_plain M x (Some st) c.args.who c.args.own l s d a c.insert.new.store c.insert.result tt tt tt u
    (c.insert.ensures.acted x c.in-Insert.label l p (insert_size c.args.statement.now c.in-Insert.table c.in-Insert.label c.in-Insert.text c.in-Insert.is c.requires.spelled) u))

pub returns-in-Update-clause-turned : goal.returns-in-Update-clause-turned
returns-in-Update-clause-turned g c = λ x b knows t.
    let M = g.D.Disk.meaning in
    let a = c.args.store.now in
    let d = c.args.doing in
    let s = c.args.scans.now in
    let p = place c.args.who s in
    let l = c.args.labels.now in
    let st = asked.Update c.in-Update.table c.in-Update.target c.in-Update.text in
    let u = turn_as M x c.args.who c.args.own l p d a c.args.statement.now st c.in-Update.is t in
    turned_as M x c.args.statement.now st c.args.who s s a c.update.new.store c.update.result c.in-Update.is
    (turned_plain M x (Some st) c.args.who c.args.own l s d a c.update.new.store c.update.result tt tt tt u
    (c.update.ensures.acted x l p (update_size c.args.statement.now c.in-Update.table c.in-Update.target c.in-Update.text c.in-Update.is c.requires.spelled) c.row_by-bound.ensures u))

pub returns-in-Delete-clause-turned : goal.returns-in-Delete-clause-turned
returns-in-Delete-clause-turned g c = λ x b knows t.
    let M = g.D.Disk.meaning in
    let a = c.args.store.now in
    let d = c.args.doing in
    let s = c.args.scans.now in
    let p = place c.args.who s in
    let l = c.args.labels.now in
    let st = asked.Delete c.in-Delete.table c.in-Delete.target in
    let u = turn_as M x c.args.who c.args.own l p d a c.args.statement.now st c.in-Delete.is t in
    turned_as M x c.args.statement.now st c.args.who s s a c.delete.new.store c.delete.result c.in-Delete.is
    (turned_plain M x (Some st) c.args.who c.args.own l s d a c.delete.new.store c.delete.result tt tt tt u
    (c.delete.ensures.acted x l p c.row_by-bound-in-Delete.ensures u))

pub returns-in-Commit-clause-turned : goal.returns-in-Commit-clause-turned
returns-in-Commit-clause-turned g c = λ x b knows t.
    let M = g.D.Disk.meaning in
    let a = c.args.store.now in
    let d = c.args.doing in
    let s = c.args.scans.now in
    let p = place c.args.who s in
    let l = c.args.labels.now in
    let st = asked.Commit in
    let u = turn_as M x c.args.who c.args.own l p d a c.args.statement.now st c.in-Commit.is t in
    turned_as M x c.args.statement.now st c.args.who s s a c.commit_own.new.store c.commit_own.result c.in-Commit.is
    (turned_so M x (Some st) c.args.who c.args.own l s d a c.commit_own.new.store c.commit_own.result tt tt u
    (c.commit_own.ensures.acted x u.at (once_starts M x c.args.who c.args.own l p d a st tt u))
    (c.commit_own.ensures.acked x u.at (once_starts M x c.args.who c.args.own l p d a st tt u)))

pub returns-in-Rollback-clause-turned : goal.returns-in-Rollback-clause-turned
returns-in-Rollback-clause-turned g c = λ x b knows t.
    let M = g.D.Disk.meaning in
    let a = c.args.store.now in
    let d = c.args.doing in
    let s = c.args.scans.now in
    let p = place c.args.who s in
    let l = c.args.labels.now in
    let st = asked.Rollback in
    let u = turn_as M x c.args.who c.args.own l p d a c.args.statement.now st c.in-Rollback.is t in
    turned_as M x c.args.statement.now st c.args.who s s a c.roll.new.store c.roll.result c.in-Rollback.is
    (turned_plain M x (Some st) c.args.who c.args.own l s d a c.roll.new.store c.roll.result tt tt tt u
    (c.roll.ensures.acted x (Some st) c.args.who l p tt (λ z. none_some _ _ (sym z)) u))

pub returns-in-Scan-clause-turned : goal.returns-in-Scan-clause-turned
returns-in-Scan-clause-turned g c = λ x b knows t.
    let M = g.D.Disk.meaning in
    let a = c.args.store.now in
    let d = c.args.doing in
    let s = c.args.scans.now in
    let p = place c.args.who s in
    let l = c.args.labels.now in
    let st = asked.Scan c.in-Scan.table in
    let u = turn_as M x c.args.who c.args.own l p d a c.args.statement.now st c.in-Scan.is t in
    turned_as M x c.args.statement.now st c.args.who s c.scan.new.scans a c.scan.new.store c.scan.result c.in-Scan.is (c.scan.ensures.turned x l d u)

pub returns-in-Usage-clause-turned : goal.returns-in-Usage-clause-turned
returns-in-Usage-clause-turned g c = λ x b knows t.
    let M = g.D.Disk.meaning in
    let a = c.args.store.now in
    let d = c.args.doing in
    let s = c.args.scans.now in
    let p = place c.args.who s in
    let l = c.args.labels.now in
    let st = asked.Usage c.in-Usage.table in
    let u = turn_as M x c.args.who c.args.own l p d a c.args.statement.now st c.in-Usage.is t in
    turned_as M x c.args.statement.now st c.args.who s s a c.tell_usage.new.store c.tell_usage.result c.in-Usage.is
    (turned_plain M x (Some st) c.args.who c.args.own l s d a c.tell_usage.new.store c.tell_usage.result tt tt tt u
    (c.tell_usage.ensures.acted x u.at (once_starts M x c.args.who c.args.own l p d a st tt u)))

pub returns-in-Fix-clause-turned : goal.returns-in-Fix-clause-turned
returns-in-Fix-clause-turned g c = λ x b knows t.
    let M = g.D.Disk.meaning in
    let a = c.args.store.now in
    let d = c.args.doing in
    let s = c.args.scans.now in
    let p = place c.args.who s in
    let l = c.args.labels.now in
    let st = asked.Fix c.in-Fix.table c.in-Fix.block c.in-Fix.value in
    let u = turn_as M x c.args.who c.args.own l p d a c.args.statement.now st c.in-Fix.is t in
    turned_as M x c.args.statement.now st c.args.who s s a c.fix.new.store c.fix.result c.in-Fix.is
    (turned_plain M x (Some st) c.args.who c.args.own l s d a c.fix.new.store c.fix.result tt tt tt u
    (c.fix.ensures.acted x u.at (once_starts M x c.args.who c.args.own l p d a st tt u)))

pub returns-in-Repair-clause-turned : goal.returns-in-Repair-clause-turned
returns-in-Repair-clause-turned g c = λ x b knows t.
    let M = g.D.Disk.meaning in
    let a = c.args.store.now in
    let d = c.args.doing in
    let s = c.args.scans.now in
    let p = place c.args.who s in
    let l = c.args.labels.now in
    let st = asked.Repair c.in-Repair.table in
    let u = turn_as M x c.args.who c.args.own l p d a c.args.statement.now st c.in-Repair.is t in
    turned_as M x c.args.statement.now st c.args.who s s a c.repair.new.store c.repair.result c.in-Repair.is
    (turned_plain M x (Some st) c.args.who c.args.own l s d a c.repair.new.store c.repair.result tt tt tt u
    (c.repair.ensures.acted x c.args.who l p b u))

pub returns-in-Shrink-clause-turned : goal.returns-in-Shrink-clause-turned
returns-in-Shrink-clause-turned g c = λ x b knows t.
    let M = g.D.Disk.meaning in
    let a = c.args.store.now in
    let d = c.args.doing in
    let s = c.args.scans.now in
    let p = place c.args.who s in
    let l = c.args.labels.now in
    let st = asked.Shrink c.in-Shrink.table c.in-Shrink.compact in
    let u = turn_as M x c.args.who c.args.own l p d a c.args.statement.now st c.in-Shrink.is t in
    turned_as M x c.args.statement.now st c.args.who s c.shrink.new.scans a c.shrink.new.store c.shrink.result c.in-Shrink.is (c.shrink.ensures.turned x c.args.who l knows u)

pub insert-requires-clause-size : goal.insert-requires-clause-size
insert-requires-clause-size g c = (insert_size c.args.statement.now c.in-Insert.table c.in-Insert.label c.in-Insert.text c.in-Insert.is c.requires.spelled).most

pub update-requires-clause-size : goal.update-requires-clause-size
update-requires-clause-size g c = (update_size c.args.statement.now c.in-Update.table c.in-Update.target c.in-Update.text c.in-Update.is c.requires.spelled).most
