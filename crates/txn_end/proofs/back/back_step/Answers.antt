use Rattle.std.proofs.Common.{Ok, Err, Some, None, sym, ap}
use Rattle.redo_model.specs.Model.{last_undo}
use Rattle.end_laws.specs.Types.{table_place, backed, blocks_of_step}
use Rattle.store_core.proofs.Lookups.{loan_on}
use Rattle.store_core.proofs.Additions.{adds_none, adds_ok, adds_err}
use Rattle.txn_end.proofs.Given.{table_there, standing_given}
use Rattle.txn_end.proofs.Backing.{none_left, step_none, step_some, step_blocks}
use Rattle.txn_end.proofs.back.back_step.Goals as goal

pub returns-in-Err-clause-makes : goal.returns-in-Err-clause-makes
returns-in-Err-clause-makes g c = λ R t on. adds_none g.D.Disk.meaning c.args.store.now c.ask.new.store c.in-Err.fault R (backed R c.args.txn) t c.in-Err.ensures.looked
    (λ n. c.in-Err.ensures.sound R (record { entry = table_place R c.args.txn; last = last_undo R c.args.txn }) t n (table_there c.args.store.now.shape t.list.within) (standing_given c.args.store.now.shape R c.args.txn t.list.within t.lawful on))

pub returns-in-None-clause-makes : goal.returns-in-None-clause-makes
returns-in-None-clause-makes g c = λ R t on. step_none g.D.Disk.meaning c.args.store.now c.ask.new.store c.in-Ok.standing None R c.args.txn t c.in-Ok.ensures.looked (none_left g.D.Disk.meaning c.args.store.now R c.args.txn c.in-Ok.standing t on (c.in-Ok.ensures.says R t) c.in-None.is)

pub returns-in-None-clause-answer : goal.returns-in-None-clause-answer
returns-in-None-clause-answer g c = λ R t on. ap blocks_of_step (sym (none_left g.D.Disk.meaning c.args.store.now R c.args.txn c.in-Ok.standing t on (c.in-Ok.ensures.says R t) c.in-None.is))

pub returns-in-Ok-take_back-clause-makes : goal.returns-in-Ok-take_back-clause-makes
returns-in-Ok-take_back-clause-makes g c = λ R t on. adds_ok g.D.Disk.meaning c.args.store.now c.take_back.new.store c.in-Ok-take_back.blocks _ R (backed R c.args.txn) (step_some g.D.Disk.meaning c.args.store.now c.ask.new.store c.take_back.new.store c.in-Ok.standing (Ok c.in-Ok-take_back.blocks) R c.args.txn c.in-Some.at t on c.in-Ok.ensures.looked (c.in-Ok.ensures.says R t) c.in-Some.is (λ Q st q o e u i. c.in-Ok-take_back.ensures.makes Q st q o e u i))

pub returns-in-Ok-take_back-clause-answer : goal.returns-in-Ok-take_back-clause-answer
returns-in-Ok-take_back-clause-answer g c = λ R t on. step_blocks g.D.Disk.meaning c.args.store.now c.ask.new.store c.in-Ok.standing c.in-Ok-take_back.blocks R c.args.txn c.in-Some.at t on c.in-Ok.ensures.looked (c.in-Ok.ensures.says R t) c.in-Some.is (λ Q st q o e u i. c.in-Ok-take_back.ensures.answer Q st q o e u i)

pub returns-in-Ok-take_back-clause-loan : goal.returns-in-Ok-take_back-clause-loan
returns-in-Ok-take_back-clause-loan g c = loan_on g.D.Disk.meaning c.args.store.now c.ask.new.store c.take_back.new.store c.in-Ok.ensures.looked.list c.in-Ok.ensures.looked.loan c.take_back.ensures.loan

pub returns-in-Err-take_back-clause-makes : goal.returns-in-Err-take_back-clause-makes
returns-in-Err-take_back-clause-makes g c = λ R t on. adds_err g.D.Disk.meaning c.args.store.now c.take_back.new.store c.in-Err-take_back.fault R (backed R c.args.txn) (step_some g.D.Disk.meaning c.args.store.now c.ask.new.store c.take_back.new.store c.in-Ok.standing (Err c.in-Err-take_back.fault) R c.args.txn c.in-Some.at t on c.in-Ok.ensures.looked (c.in-Ok.ensures.says R t) c.in-Some.is (λ Q st q o e u i. c.in-Err-take_back.ensures.makes Q st q o e u i))

pub returns-in-Err-take_back-clause-loan : goal.returns-in-Err-take_back-clause-loan
returns-in-Err-take_back-clause-loan g c = loan_on g.D.Disk.meaning c.args.store.now c.ask.new.store c.take_back.new.store c.in-Ok.ensures.looked.list c.in-Ok.ensures.looked.loan c.take_back.ensures.loan
