use Rattle.std.proofs.Common.{Option, ℕ}
use Rattle.store_core.proofs.Lookups.{looked_ok, looked_err}
use Rattle.shrink_move.proofs.Nexts.{fits_nowhere, goes_to_block, place_below}
use Rattle.shrink_move.proofs.next.next_below.Goals as goal

pub returns-in-Ok-Some-clause-looked : goal.returns-in-Ok-Some-clause-looked
returns-in-Ok-Some-clause-looked g c = looked_ok g.D.Disk.meaning c.args.store.now c.taker_below.new.store c.in-Ok-Some.field-0 _ c.in-Ok-Some.ensures.looked

pub returns-in-Ok-Some-clause-says : goal.returns-in-Ok-Some-clause-says
returns-in-Ok-Some-clause-says g c = λ R o cursor skips k m not. goes_to_block c.args.ground.now.shape R o skips cursor c.args.len c.in-Ok-Some.target c.args.come.now c.in-Ok-Some.field-0 m not (c.in-Ok-Some.ensures.says R o k) c.in-Ok-Some.field-0-is

pub returns-in-Ok-None-clause-looked : goal.returns-in-Ok-None-clause-looked
returns-in-Ok-None-clause-looked g c = looked_ok g.D.Disk.meaning c.args.store.now c.taker_below.new.store c.in-Ok-None.field-0 _ c.in-Ok-None.ensures.looked

pub returns-in-Ok-None-clause-says : goal.returns-in-Ok-None-clause-says
returns-in-Ok-None-clause-says g c = λ R o cursor skips k m not. fits_nowhere c.args.ground.now.shape R o skips cursor c.args.len c.args.come.now c.in-Ok-None.field-0 m not (c.in-Ok-None.ensures.says R o k) c.in-Ok-None.field-0-is

pub returns-in-Err-clause-looked : goal.returns-in-Err-clause-looked
returns-in-Err-clause-looked g c = looked_err {A = Option ℕ} g.D.Disk.meaning c.args.store.now c.taker_below.new.store c.in-Err.fault c.in-Err.ensures.looked

pub returns-in-Err-clause-sound : goal.returns-in-Err-clause-sound
returns-in-Err-clause-sound g c = λ R o cursor skips k m. c.in-Err.ensures.sound R o k (place_below c.args.ground.now.shape R o skips cursor c.args.come.now.place c.args.come.now.at.dba c.args.come.now.at.slot m.finds)
