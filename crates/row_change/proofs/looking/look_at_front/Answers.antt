use Rattle.store_core.proofs.Lookups.{looked_ok, looked_err, refused_after}
use Rattle.row_change.proofs.Given.{rows_there}
use Rattle.row_change.proofs.Looked.{block_still, front_given, front_means, front_told}
use Rattle.row_change.proofs.looking.look_at_front.Goals as goal

pub returns-in-Err-clause-looked : goal.returns-in-Err-clause-looked
returns-in-Err-clause-looked g c = looked_err g.D.Disk.meaning c.args.store.now c.ask.new.store c.in-Err.fault c.in-Err.ensures.looked

pub returns-in-Err-clause-sound : goal.returns-in-Err-clause-sound
returns-in-Err-clause-sound g c = λ R own o n t w f i u.
    c.in-Err.ensures.sound R _ t u (rows_there c.args.store.now.shape R o c.args.place.now.at.dba t.list.within t.lawful (block_still c.args.store.now.shape R own o n c.args.place.now t.lawful.allowed w f i.born))
    (front_given c.args.store.now.shape R own o n c.args.place.now t.list.within t.lawful w f i)

pub returns-in-Some-clause-looked : goal.returns-in-Some-clause-looked
returns-in-Some-clause-looked g c = looked_ok g.D.Disk.meaning c.args.store.now c.ask.new.store c.in-Ok.front _ c.in-Ok.ensures.looked

pub returns-in-Some-clause-says : goal.returns-in-Some-clause-says
returns-in-Some-clause-says g c = λ R own o n t w f i. front_means c.args.store.now.shape R own o n c.args.place.now c.in-Ok.front c.in-Some.look t.list.within t.lawful w f i (c.in-Ok.ensures.says R t) c.in-Some.ensures.says

pub returns-in-None-clause-looked : goal.returns-in-None-clause-looked
returns-in-None-clause-looked g c = refused_after g.D.Disk.meaning c.args.store.now c.ask.new.store c.refuse.new.self c.in-Ok.front c.refuse.result c.in-Ok.ensures.looked c.refuse.ensures.looked

pub returns-in-None-clause-sound : goal.returns-in-None-clause-sound
returns-in-None-clause-sound g c = λ R own o n t w f i u. absurd (front_told c.args.store.now.shape R own o n c.args.place.now c.in-Ok.front t.list.within t.lawful w f i (c.in-Ok.ensures.says R t) c.in-None.ensures.none)
