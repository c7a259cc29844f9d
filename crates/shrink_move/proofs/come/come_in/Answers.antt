use Rattle.std.proofs.Common.{Option, ℕ}
use Rattle.store_core.proofs.Lookups.{looked_ok, looked_err, looked_same}
use Rattle.shrink_move.proofs.Coming.{comes_free, comes_none, comes_some, comes_sound}
use Rattle.shrink_move.proofs.come.come_in.Goals as goal

pub returns-then-block-eq0-clause-looked : goal.returns-then-block-eq0-clause-looked
returns-then-block-eq0-clause-looked g c = looked_same g.D.Disk.meaning c.args.store.now _ c.requires.unspent

pub returns-then-block-eq0-clause-says : goal.returns-then-block-eq0-clause-says
returns-then-block-eq0-clause-says g c = λ R o k w. comes_free g.D.Disk.meaning c.args.store.now R o c.args.position c.args.ground.now c.args.skips.now c.args.block.now k w c.if-block-eq0.true

pub returns-in-Ok-Some-clause-looked : goal.returns-in-Ok-Some-clause-looked
returns-in-Ok-Some-clause-looked g c = looked_ok g.D.Disk.meaning c.args.store.now c.ask.new.store c.in-Ok-Some.field-0 _ c.in-Ok-Some.ensures.looked

pub returns-in-Ok-Some-clause-says : goal.returns-in-Ok-Some-clause-says
returns-in-Ok-Some-clause-says g c = λ R o k w. comes_some g.D.Disk.meaning c.args.store.now R o c.args.position c.in-Ok-Some.slot c.args.ground.now c.args.skips.now c.args.block.now c.in-Ok-Some.field-0 c.come_to.result k w c.if-block-eq0.false (c.in-Ok-Some.ensures.says R k.holds) c.in-Ok-Some.field-0-is c.come_to.ensures

pub returns-in-Ok-None-clause-looked : goal.returns-in-Ok-None-clause-looked
returns-in-Ok-None-clause-looked g c = looked_ok g.D.Disk.meaning c.args.store.now c.ask.new.store c.in-Ok-None.field-0 _ c.in-Ok-None.ensures.looked

pub returns-in-Ok-None-clause-says : goal.returns-in-Ok-None-clause-says
returns-in-Ok-None-clause-says g c = λ R o k w. comes_none g.D.Disk.meaning c.args.store.now R o c.args.position c.args.ground.now c.args.skips.now c.args.block.now c.in-Ok-None.field-0 k w c.if-block-eq0.false (c.in-Ok-None.ensures.says R k.holds) c.in-Ok-None.field-0-is

pub returns-in-Err-clause-looked : goal.returns-in-Err-clause-looked
returns-in-Err-clause-looked g c = looked_err {A = Option ℕ} g.D.Disk.meaning c.args.store.now c.ask.new.store c.in-Err.fault c.in-Err.ensures.looked

pub returns-in-Err-clause-sound : goal.returns-in-Err-clause-sound
returns-in-Err-clause-sound g c = λ R o k w. comes_sound g.D.Disk.meaning c.args.store.now R o c.args.position c.args.ground.now c.args.skips.now c.args.block.now c.in-Err.fault k w c.if-block-eq0.false (λ x h e. c.in-Err.ensures.sound R x k.holds c.requires.unspent h e)
