use Rattle.std.proofs.Common.{Ok}
use Rattle.redo_model.specs.Records.{LowerRecord}
use Rattle.store_core.proofs.Lookups.{looked_on, looked_err}
use Rattle.lowering.specs.declared.groups.Groups.{Groups}
use Rattle.lowering.proofs.Knowing.{knows_later}
use Rattle.lowering.proofs.draft.draft_lower.Goals as goal

pub returns-in-Ok-clause-looked : goal.returns-in-Ok-clause-looked
returns-in-Ok-clause-looked g c = looked_on g.D.Disk.meaning c.args.store.now c.groups_of.new.store c.draft_with.new.store c.in-Ok.groups c.draft_with.result c.in-Ok.ensures.looked c.draft_with.ensures.looked

pub returns-in-Ok-clause-says : goal.returns-in-Ok-clause-says
returns-in-Ok-clause-says g c = λ R o k l. c.draft_with.ensures.says R o (knows_later g.D.Disk.meaning c.args.store.now c.groups_of.new.store R o c.args.ground.now (Ok c.in-Ok.groups) c.in-Ok.ensures.looked k) l (c.in-Ok.ensures.says R o k l)

pub returns-in-Ok-clause-sound : goal.returns-in-Ok-clause-sound
returns-in-Ok-clause-sound g c = λ R o k l. c.draft_with.ensures.sound R o (knows_later g.D.Disk.meaning c.args.store.now c.groups_of.new.store R o c.args.ground.now (Ok c.in-Ok.groups) c.in-Ok.ensures.looked k) (c.in-Ok.ensures.looked.cause.kept c.in-Ok.ensures.looked.cause.goes_on)

pub returns-in-Err-clause-looked : goal.returns-in-Err-clause-looked
returns-in-Err-clause-looked g c = looked_err {A = Groups} {T = LowerRecord} g.D.Disk.meaning c.args.store.now c.groups_of.new.store c.in-Err.fault c.in-Err.ensures.looked

pub returns-in-Err-clause-sound : goal.returns-in-Err-clause-sound
returns-in-Err-clause-sound g c = λ R o k l. c.in-Err.ensures.sound R o k l
