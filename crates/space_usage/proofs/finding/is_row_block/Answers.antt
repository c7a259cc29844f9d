use Rattle.std.proofs.Common.{ℕ, Option, Ok, subst}
use Rattle.store_core.proofs.Lookups.{looked_on, looked_ok, looked_err}
use Rattle.space_usage.specs.Fixing.{IndexTold}
use Rattle.space_usage.proofs.Fixes.{far_told, known_lawful}
use Rattle.space_usage.proofs.Walks.{knows_later}
use Rattle.space_usage.proofs.finding.is_row_block.Goals as goal

pub returns-in-Ok-Some-clause-looked : goal.returns-in-Ok-Some-clause-looked
returns-in-Ok-Some-clause-looked g c = looked_on g.D.Disk.meaning c.args.store.now c.find_index.new.store c.is_row_at.new.store c.in-Ok-Some.field-0 c.is_row_at.result c.in-Ok-Some.ensures.looked c.is_row_at.ensures.looked

pub returns-in-Ok-Some-clause-says : goal.returns-in-Ok-Some-clause-says
returns-in-Ok-Some-clause-says g c = λ R o k.
    c.is_row_at.ensures.says R o (knows_later g.D.Disk.meaning c.args.store.now c.find_index.new.store R o c.args.shape.now c.args.segment.now (Ok c.in-Ok-Some.field-0) c.in-Ok-Some.ensures.looked k) (subst (IndexTold c.args.shape.now R o c.args.dba) c.in-Ok-Some.field-0-is (c.in-Ok-Some.ensures.says R o k))

pub returns-in-Ok-Some-clause-sound : goal.returns-in-Ok-Some-clause-sound
returns-in-Ok-Some-clause-sound g c = λ R o k n.
    c.is_row_at.ensures.sound R o (knows_later g.D.Disk.meaning c.args.store.now c.find_index.new.store R o c.args.shape.now c.args.segment.now (Ok c.in-Ok-Some.field-0) c.in-Ok-Some.ensures.looked k) (subst (IndexTold c.args.shape.now R o c.args.dba) c.in-Ok-Some.field-0-is (c.in-Ok-Some.ensures.says R o k)) (c.in-Ok-Some.ensures.looked.cause.kept n)

pub returns-in-Ok-None-clause-looked : goal.returns-in-Ok-None-clause-looked
returns-in-Ok-None-clause-looked g c = looked_ok g.D.Disk.meaning c.args.store.now c.find_index.new.store c.in-Ok-None.field-0 _ c.in-Ok-None.ensures.looked

pub returns-in-Ok-None-clause-says : goal.returns-in-Ok-None-clause-says
returns-in-Ok-None-clause-says g c = λ R o k. far_told c.args.shape.now R o c.args.dba c.requires (known_lawful g.D.Disk.meaning R o c.args.store.now c.args.shape.now c.args.segment.now k) k.table (subst (IndexTold c.args.shape.now R o c.args.dba) c.in-Ok-None.field-0-is (c.in-Ok-None.ensures.says R o k))

pub returns-in-Err-clause-looked : goal.returns-in-Err-clause-looked
returns-in-Err-clause-looked g c = looked_err {A = Option ℕ} g.D.Disk.meaning c.args.store.now c.find_index.new.store c.in-Err.fault c.in-Err.ensures.looked

pub returns-in-Err-clause-sound : goal.returns-in-Err-clause-sound
returns-in-Err-clause-sound g c = λ R o k n. c.in-Err.ensures.sound R o k n
