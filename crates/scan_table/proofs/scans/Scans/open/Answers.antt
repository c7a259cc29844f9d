use Rattle.scan_table.proofs.Keeping.{begins_told, open_after}
use Rattle.scan_table.proofs.scans.Scans.open.Goals as goal

pub returns-in-Ok-clause-begins : goal.returns-in-Ok-clause-begins
returns-in-Ok-clause-begins g c = λ R t i w. begins_told c.args.store.now.shape R c.args.obj c.args.own c.in-Ok.scan _ c.begin.result t.lawful.allowed i w (c.in-Ok.ensures.says R t i) c.begin.ensures.begun

pub returns-in-Ok-clause-after : goal.returns-in-Ok-clause-after
returns-in-Ok-clause-after g c = open_after c.in-Ok.scan _ c.begin.result c.begin.ensures.begun
