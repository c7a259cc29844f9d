use Rattle.std.proofs.Common.{subst}
use Rattle.store_core.proofs.Lookups.{looked_on, looked_ok}
use Rattle.row_change.specs.Looking.{Belongs}
use Rattle.row_change.proofs.Looked.{block_still, gone_changed, there_told}
use Rattle.row_change.proofs.Searching.{search_on}
use Rattle.row_change.proofs.looking.is_there.Goals as goal

pub returns-in-Ok-true-clause-looked : goal.returns-in-Ok-true-clause-looked
returns-in-Ok-true-clause-looked g c = looked_on g.D.Disk.meaning c.args.store.now c.is_born.new.store c.is_kept.new.store c.in-Ok-true.field-0 c.is_kept.result c.in-Ok-true.ensures.looked c.is_kept.ensures.looked

pub returns-in-Ok-true-clause-says : goal.returns-in-Ok-true-clause-says
returns-in-Ok-true-clause-says g c = λ R o n t h f.
    let l = c.in-Ok-true.ensures.looked in
    let b = subst (Belongs c.args.search.now.shape R o c.args.place.now.at.dba c.args.place.now.born) c.in-Ok-true.field-0-test (c.in-Ok-true.ensures.says R o t h) in
    there_told c.args.search.now.shape R c.args.search.now.own o n c.args.place.now c.is_kept.result h.lawful.allowed h.own_is f b
    (c.is_kept.ensures.says R o (l.stays_true R t) (search_on g.D.Disk.meaning c.args.store.now c.is_born.new.store _ R o c.args.search.now l h) (block_still c.args.search.now.shape R c.args.search.now.own o n c.args.place.now h.lawful.allowed h.own_is f b))

pub returns-in-Ok-true-clause-sound : goal.returns-in-Ok-true-clause-sound
returns-in-Ok-true-clause-sound g c = λ R o n t h f u.
    let l = c.in-Ok-true.ensures.looked in
    let b = subst (Belongs c.args.search.now.shape R o c.args.place.now.at.dba c.args.place.now.born) c.in-Ok-true.field-0-test (c.in-Ok-true.ensures.says R o t h) in
    c.is_kept.ensures.sound R o (l.stays_true R t) (search_on g.D.Disk.meaning c.args.store.now c.is_born.new.store _ R o c.args.search.now l h) (block_still c.args.search.now.shape R c.args.search.now.own o n c.args.place.now h.lawful.allowed h.own_is f b) (l.cause.kept u)

pub returns-in-Ok-false-clause-looked : goal.returns-in-Ok-false-clause-looked
returns-in-Ok-false-clause-looked g c = looked_ok g.D.Disk.meaning c.args.store.now c.is_born.new.store c.in-Ok-false.field-0 _ c.in-Ok-false.ensures.looked

pub returns-in-Ok-false-clause-says : goal.returns-in-Ok-false-clause-says
returns-in-Ok-false-clause-says g c = λ R o n t h f. gone_changed c.args.search.now.shape R c.args.search.now.own o n c.args.place.now h.lawful.allowed h.own_is f (subst (Belongs c.args.search.now.shape R o c.args.place.now.at.dba c.args.place.now.born) c.in-Ok-false.field-0-test (c.in-Ok-false.ensures.says R o t h))

pub returns-in-Err-clause-sound : goal.returns-in-Err-clause-sound
returns-in-Err-clause-sound g c = λ R o n t h f u. c.in-Err.ensures.sound R o t h u
