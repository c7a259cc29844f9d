use Rattle.txn_end.proofs.Given.{table_there}
use Rattle.recovery.proofs.Nexting.{next_given, says_any}
use Rattle.recovery.proofs.next.next_active.Goals as goal

pub returns-clause-says : goal.returns-clause-says
returns-clause-says g c = λ R h. says_any c.args.store.now.shape R c.ask.result h.list.within h.lawful (c.ask.ensures.says R h)

pub returns-clause-sound : goal.returns-clause-sound
returns-clause-sound g c = λ R h n. let x = next_given c.args.store.now.shape R h.list.within h.lawful in c.ask.ensures.sound R x.0 h n (table_there c.args.store.now.shape h.list.within) x.1
