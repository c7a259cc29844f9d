use Rattle.store_core.proofs.Lookups.{looked_same, looked_err}
use Rattle.row_change.proofs.Acted.{acts, acts_found}
use Rattle.row_change.proofs.actor.find_actor.Goals as goal

pub returns-in-Some-clause-looked : goal.returns-in-Some-clause-looked
returns-in-Some-clause-looked g c = looked_same g.D.Disk.meaning c.args.store.now c.in-Some.actor c.requires.unspent

pub returns-in-Some-clause-says : goal.returns-in-Some-clause-says
returns-in-Some-clause-says g c = λ R t k m. acts c.args.store.now.shape R c.args.table.now c.args.who c.args.own c.in-Some.actor t.lawful k m c.in-Some.ensures.active c.in-Some.ensures.begins

pub returns-in-None-clause-sound : goal.returns-in-None-clause-sound
returns-in-None-clause-sound g c = λ R o t k i m. absurd (acts_found c.args.store.now.shape R o c.args.table.now c.args.who c.args.own t.lawful t.list.few i k m c.in-None.ensures.active c.in-None.ensures.full)

pub returns-in-None-clause-looked : goal.returns-in-None-clause-looked
returns-in-None-clause-looked g c = looked_err g.D.Disk.meaning c.args.store.now c.refuse.new.self c.refuse.result c.refuse.ensures.looked
