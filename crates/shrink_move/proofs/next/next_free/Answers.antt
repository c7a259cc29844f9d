use Rattle.std.proofs.Common.{Ok, Option}
use Rattle.seg_words.specs.Types.{Rowid}
use Rattle.store_core.proofs.Lookups.{looked_ok, looked_on, looked_err}
use Rattle.shrink_move.proofs.Knowing.{knows_later}
use Rattle.shrink_move.proofs.Nexts.{goes_to_body, leads_nowhere, place_below}
use Rattle.shrink_move.proofs.next.next_free.Goals as goal

pub returns-in-Ok-Some-clause-looked : goal.returns-in-Ok-Some-clause-looked
returns-in-Ok-Some-clause-looked g c = looked_ok g.D.Disk.meaning c.args.store.now c.body_below.new.store c.in-Ok-Some.field-0 _ c.in-Ok-Some.ensures.looked

pub returns-in-Ok-Some-clause-says : goal.returns-in-Ok-Some-clause-says
returns-in-Ok-Some-clause-says g c = λ R o cursor skips k m e. goes_to_body c.args.ground.now.shape R o skips cursor c.args.len c.args.come.now c.args.body c.in-Ok-Some.field-0 c.in-Ok-Some.at m e c.in-Ok-Some.field-0-is (c.in-Ok-Some.ensures.says R o k)

pub returns-in-Ok-None-clause-looked : goal.returns-in-Ok-None-clause-looked
returns-in-Ok-None-clause-looked g c = looked_on g.D.Disk.meaning c.args.store.now c.body_below.new.store c.next_below.new.store c.in-Ok-None.field-0 c.next_below.result c.in-Ok-None.ensures.looked c.next_below.ensures.looked

pub returns-in-Ok-None-clause-says : goal.returns-in-Ok-None-clause-says
returns-in-Ok-None-clause-says g c = λ R o cursor skips k m e. c.next_below.ensures.says R o cursor skips (knows_later g.D.Disk.meaning c.args.store.now c.body_below.new.store R o c.args.ground.now (Ok c.in-Ok-None.field-0) c.in-Ok-None.ensures.looked k) m
    (leads_nowhere c.args.ground.now.shape R o c.args.come.now.place c.args.come.now.at.dba c.args.come.now.at.slot c.args.body c.in-Ok-None.field-0 e c.in-Ok-None.field-0-is (c.in-Ok-None.ensures.says R o k))

pub returns-in-Ok-None-clause-sound : goal.returns-in-Ok-None-clause-sound
returns-in-Ok-None-clause-sound g c = λ R o cursor skips k m. c.next_below.ensures.sound R o cursor skips (knows_later g.D.Disk.meaning c.args.store.now c.body_below.new.store R o c.args.ground.now (Ok c.in-Ok-None.field-0) c.in-Ok-None.ensures.looked k) m

pub returns-in-Err-clause-looked : goal.returns-in-Err-clause-looked
returns-in-Err-clause-looked g c = looked_err {A = Option Rowid} g.D.Disk.meaning c.args.store.now c.body_below.new.store c.in-Err.fault c.in-Err.ensures.looked

pub returns-in-Err-clause-sound : goal.returns-in-Err-clause-sound
returns-in-Err-clause-sound g c = λ R o cursor skips k m. c.in-Err.ensures.sound R o k (place_below c.args.ground.now.shape R o skips cursor c.args.come.now.place c.args.come.now.at.dba c.args.come.now.at.slot m.finds)

pub next_below-requires-clause-unspent : goal.next_below-requires-clause-unspent
next_below-requires-clause-unspent g c = c.in-Ok-None.ensures.looked.cause.kept c.in-Ok-None.ensures.looked.cause.goes_on
