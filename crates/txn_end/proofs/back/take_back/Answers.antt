use Rattle.std.proofs.Common.{Ok, Err, ◌∷◌, ap, ◌∙◌}
use Rattle.redo_model.specs.Records.{Back, BackRecord}
use Rattle.end_laws.specs.Types.{back_of}
use Rattle.txn_end.specs.Backing.{blocks_of_parts}
use Rattle.store_core.proofs.Lookups.{loan_on, looked_memory}
use Rattle.store_core.proofs.Additions.{adds_none, adds_ok, adds_err}
use Rattle.txn_end.proofs.Backing.{told, blocks_same, take_makes}
use Rattle.txn_end.proofs.back.take_back.Goals as goal

pub returns-in-Err-clause-makes : goal.returns-in-Err-clause-makes
returns-in-Err-clause-makes g c = λ R st t on e u i. adds_none g.D.Disk.meaning c.args.store.now c.back_record.new.store c.in-Err.fault R (Back (back_of R c.args.txn st) ∷ R) t c.in-Err.ensures.looked (λ n. c.in-Err.ensures.sound R st t (told g.D.Disk.meaning c.args.store.now R c.args.txn st t on e) u n)

pub returns-in-Err-blocks_of-clause-makes : goal.returns-in-Err-blocks_of-clause-makes
returns-in-Err-blocks_of-clause-makes g c = λ R st t on e u i. adds_none g.D.Disk.meaning c.args.store.now c.back_record.new.store _ R (Back (back_of R c.args.txn st) ∷ R) t (looked_memory {T = BackRecord} g.D.Disk.meaning c.args.store.now c.back_record.new.store c.in-Ok.body c.in-Ok.ensures.looked) (λ n. tt)

pub returns-in-Ok-add-clause-makes : goal.returns-in-Ok-add-clause-makes
returns-in-Ok-add-clause-makes g c = λ R st t on e u i. adds_ok g.D.Disk.meaning c.args.store.now c.add.new.store tt c.in-Ok-blocks_of.blocks R (Back (back_of R c.args.txn st) ∷ R) (take_makes g.D.Disk.meaning c.args.store.now c.back_record.new.store c.add.new.store c.in-Ok.body (Ok tt) R c.args.txn st t on e c.in-Ok.ensures.looked (c.in-Ok.ensures.says R st t (told g.D.Disk.meaning c.args.store.now R c.args.txn st t on e) u i) (λ Q q l. c.in-Ok-add.ensures.makes Q q l))

pub returns-in-Ok-add-clause-answer : goal.returns-in-Ok-add-clause-answer
returns-in-Ok-add-clause-answer g c = λ R st t on e u i. c.in-Ok-blocks_of.ensures ∙ ap blocks_of_parts c.as_slice.ensures.same ∙ ap (λ (k : BackRecord). blocks_of_parts k.parts) (c.in-Ok.ensures.says R st t (told g.D.Disk.meaning c.args.store.now R c.args.txn st t on e) u i) ∙ blocks_same st.parts

pub returns-in-Ok-add-clause-loan : goal.returns-in-Ok-add-clause-loan
returns-in-Ok-add-clause-loan g c = loan_on g.D.Disk.meaning c.args.store.now c.back_record.new.store c.add.new.store c.in-Ok.ensures.looked.list c.in-Ok.ensures.looked.loan c.add.ensures.loan

pub returns-in-Err-add-clause-makes : goal.returns-in-Err-add-clause-makes
returns-in-Err-add-clause-makes g c = λ R st t on e u i. adds_err g.D.Disk.meaning c.args.store.now c.add.new.store c.in-Err-add.fault R (Back (back_of R c.args.txn st) ∷ R) (take_makes g.D.Disk.meaning c.args.store.now c.back_record.new.store c.add.new.store c.in-Ok.body (Err c.in-Err-add.fault) R c.args.txn st t on e c.in-Ok.ensures.looked (c.in-Ok.ensures.says R st t (told g.D.Disk.meaning c.args.store.now R c.args.txn st t on e) u i) (λ Q q l. c.in-Err-add.ensures.makes Q q l))

pub returns-in-Err-add-clause-loan : goal.returns-in-Err-add-clause-loan
returns-in-Err-add-clause-loan g c = loan_on g.D.Disk.meaning c.args.store.now c.back_record.new.store c.add.new.store c.in-Ok.ensures.looked.list c.in-Ok.ensures.looked.loan c.add.ensures.loan
