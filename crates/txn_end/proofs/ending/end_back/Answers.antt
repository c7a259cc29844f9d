use Rattle.redo_model.specs.Records.{Ended}
use Rattle.redo_model.specs.Model.{last_undo}
use Rattle.end_laws.specs.Types.{ended_of, table_place}
use Rattle.std.specs.Prelude.{◌∷◌}
use Rattle.store_core.proofs.Lookups.{loan_on}
use Rattle.store_core.proofs.Additions.{adds_none}
use Rattle.txn_end.proofs.Given.{table_there, standing_given}
use Rattle.txn_end.proofs.EndBack.{end_makes}
use Rattle.txn_end.proofs.ending.end_back.Goals as goal

pub returns-in-Err-clause-makes : goal.returns-in-Err-clause-makes
returns-in-Err-clause-makes g c = λ R t m. adds_none g.D.Disk.meaning c.args.store.now c.ask.new.store c.in-Err.fault R (Ended (ended_of R c.args.txn) ∷ R) t c.in-Err.ensures.looked
    (λ n. c.in-Err.ensures.sound R (record { entry = table_place R c.args.txn; last = last_undo R c.args.txn }) t n (table_there c.args.store.now.shape t.list.within) (standing_given c.args.store.now.shape R c.args.txn t.list.within t.lawful m.active))

pub returns-clause-makes : goal.returns-clause-makes
returns-clause-makes g c = λ R t m. end_makes g.D.Disk.meaning c.args.store.now c.ask.new.store c.add.new.store c.in-Ok.standing c.add.result R c.args.txn t m c.in-Ok.ensures.looked (c.in-Ok.ensures.says R t) (λ Q q l. c.add.ensures.makes Q q l)

pub returns-clause-loan : goal.returns-clause-loan
returns-clause-loan g c = loan_on g.D.Disk.meaning c.args.store.now c.ask.new.store c.add.new.store c.in-Ok.ensures.looked.list c.in-Ok.ensures.looked.loan c.add.ensures.loan
