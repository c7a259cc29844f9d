use Rattle.session_core.specs.Leaving.{no_blocks}
use Rattle.session_core.proofs.Blocks.{noted_as, noted_same}
use Rattle.session_core.proofs.Calls.{acted_memory}
use Rattle.session_core.proofs.Marking.{unmarked}
use Rattle.session_core.proofs.shrinking.go_on_shrinking.Goals as goal

pub returns-then-moved-clause-acted : goal.returns-then-moved-clause-acted
returns-then-moved-clause-acted g c = λ x scans at r. record { acted = acted_memory g.D.Disk.meaning x _ c.args.own c.args.store.now at; marks = unmarked x.ended scans }

pub returns-then-moved-clause-noted : goal.returns-then-moved-clause-noted
returns-then-moved-clause-noted g c = λ x at r none. noted_as g.D.Disk.meaning x.ended c.args.store.now c.args.changed.now no_blocks none (noted_same g.D.Disk.meaning x.ended c.args.store.now at.stands)
