use Rattle.std.proofs.Common.{ℕ, Ok, Err, arith}
use Rattle.store_core.proofs.Lookups.{looked_on, looked_ok, looked_err}
use Rattle.lowering.specs.declared.draft.Tops.{Tops}
use Rattle.lowering.proofs.Knowing.{knows_later}
use Rattle.lowering.proofs.Places.{first_there, some_blocks}
use Rattle.lowering.proofs.draft.tops_of.Goals as goal

pub returns-in-Err-clause-looked : goal.returns-in-Err-clause-looked
returns-in-Err-clause-looked g c = looked_err {A = ℕ} {T = Tops} g.D.Disk.meaning c.args.store.now c.block_of.new.store c.in-Err.fault c.in-Err.ensures.looked

pub returns-in-Err-clause-sound : goal.returns-in-Err-clause-sound
returns-in-Err-clause-sound g c = λ R o k u. c.in-Err.ensures.sound R o k (first_there g.D.Disk.meaning c.args.store.now R o c.args.ground.now k) (some_blocks c.args.ground.now.shape 2 c.requires (omega arith)) u

pub returns-in-Ok-lowering_of-clause-looked : goal.returns-in-Ok-lowering_of-clause-looked
returns-in-Ok-lowering_of-clause-looked g c = looked_ok g.D.Disk.meaning c.args.store.now c.lowering_of.new.store c.in-Ok-lowering_of.lowering _ (looked_on g.D.Disk.meaning c.args.store.now c.block_of.new.store c.lowering_of.new.store c.in-Ok.l3 (Ok c.in-Ok-lowering_of.lowering) c.in-Ok.ensures.looked c.in-Ok-lowering_of.ensures.looked)

pub returns-in-Ok-lowering_of-clause-says : goal.returns-in-Ok-lowering_of-clause-says
returns-in-Ok-lowering_of-clause-says g c = λ R o k. record {
  l3 = c.in-Ok.ensures.says R o k;
  lowering = c.in-Ok-lowering_of.ensures.says R o (knows_later g.D.Disk.meaning c.args.store.now c.block_of.new.store R o c.args.ground.now (Ok c.in-Ok.l3) c.in-Ok.ensures.looked k);
}

pub returns-in-Err-lowering_of-clause-looked : goal.returns-in-Err-lowering_of-clause-looked
returns-in-Err-lowering_of-clause-looked g c = looked_on g.D.Disk.meaning c.args.store.now c.block_of.new.store c.lowering_of.new.store c.in-Ok.l3 (Err c.in-Err-lowering_of.fault) c.in-Ok.ensures.looked (looked_err {A = ℕ} {T = Tops} g.D.Disk.meaning c.block_of.new.store c.lowering_of.new.store c.in-Err-lowering_of.fault c.in-Err-lowering_of.ensures.looked)

pub returns-in-Err-lowering_of-clause-sound : goal.returns-in-Err-lowering_of-clause-sound
returns-in-Err-lowering_of-clause-sound g c = λ R o k u. c.in-Err-lowering_of.ensures.sound R o (knows_later g.D.Disk.meaning c.args.store.now c.block_of.new.store R o c.args.ground.now (Ok c.in-Ok.l3) c.in-Ok.ensures.looked k) (c.in-Ok.ensures.looked.cause.kept u)
