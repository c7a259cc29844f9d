use Rattle.std.proofs.Common.{subst}
use Rattle.std.specs.Prelude.{Ok}
use Rattle.store_core.proofs.Lookups.{looked_memory}
use Rattle.scan_table.specs.Reading.{SlotAnswers}
use Rattle.scan_table.proofs.Adding.{none_added, row_added}
use Rattle.scan_table.proofs.slots.add_slot.Goals as goal

pub returns-in-Ok-None-clause-says : goal.returns-in-Ok-None-clause-says
returns-in-Ok-None-clause-says g c = λ R o t h. none_added R c.args.reader.now c.args.dba c.args.slot c.args.rows.now (subst (λ x. SlotAnswers R c.args.reader.now c.args.dba c.args.slot (Ok x)) c.in-Ok-None.field-0-is (c.in-Ok-None.ensures.says R o t h))

pub returns-in-Ok-clause-says : goal.returns-in-Ok-clause-says
returns-in-Ok-clause-says g c = λ R o t h. row_added R c.args.reader.now c.args.dba c.args.slot c.in-Ok-Some.row c.args.rows.now c.push.new.self (subst (λ x. SlotAnswers R c.args.reader.now c.args.dba c.args.slot (Ok x)) c.in-Ok-Some.field-0-is (c.in-Ok-Some.ensures.says R o t h)) c.in-Ok.ensures

pub returns-in-Err-push-clause-looked : goal.returns-in-Err-push-clause-looked
returns-in-Err-push-clause-looked g c = looked_memory g.D.Disk.meaning c.args.store.now c.read_slot.new.store tt c.in-Ok-Some.ensures.looked
