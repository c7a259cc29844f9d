use Rattle.std.proofs.Common.{true, refl, subst, true≢false}
use Rattle.std.specs.Prelude.{Ok, Err}
use Rattle.redo_model.specs.Model.{extents_of}
use Rattle.store_core.proofs.Lookups.{looked_on, looked_ok, looked_err}
use Rattle.row_change.specs.Looking.{StandsIn}
use Rattle.row_change.proofs.Belonging.{no_extent, belongs}
use Rattle.row_change.proofs.Positions.{extent_there}
use Rattle.row_change.proofs.Searching.{search_on}
use Rattle.row_change.proofs.born.incarnation_in.Goals as goal

pub returns-in-Err-clause-looked : goal.returns-in-Err-clause-looked
returns-in-Err-clause-looked g c = looked_err g.D.Disk.meaning c.args.store.now c.index_of.new.store c.in-Err.fault c.in-Err.ensures.looked

pub returns-in-Err-clause-sound : goal.returns-in-Err-clause-sound
returns-in-Err-clause-sound g c = λ R o t h n. c.in-Err.ensures.sound R o t h n

pub returns-in-None-clause-looked : goal.returns-in-None-clause-looked
returns-in-None-clause-looked g c = looked_ok g.D.Disk.meaning c.args.store.now c.index_of.new.store c.in-Ok.index _ c.in-Ok.ensures.looked

pub returns-in-None-clause-says : goal.returns-in-None-clause-says
returns-in-None-clause-says g c = λ R o t h. λ born. no_extent c.args.search.now.shape R o c.args.dba born h.lawful.allowed h.there (subst (StandsIn c.args.search.now.shape R o c.args.dba) c.in-None.is (c.in-Ok.ensures.says R o t h))

pub returns-in-Ok-born_at-clause-looked : goal.returns-in-Ok-born_at-clause-looked
returns-in-Ok-born_at-clause-looked g c = looked_ok g.D.Disk.meaning c.args.store.now c.born_at.new.store c.in-Ok-born_at.born _ (looked_on g.D.Disk.meaning c.args.store.now c.index_of.new.store c.born_at.new.store c.in-Ok.index (Ok c.in-Ok-born_at.born) c.in-Ok.ensures.looked c.in-Ok-born_at.ensures.looked)

pub returns-in-Ok-born_at-clause-says : goal.returns-in-Ok-born_at-clause-says
returns-in-Ok-born_at-clause-says g c = λ R o t h.
    let l = c.in-Ok.ensures.looked in
    let i = subst (StandsIn c.args.search.now.shape R o c.args.dba) c.in-Some.is (c.in-Ok.ensures.says R o t h) in
    let e = extent_there (extents_of R o) c.in-Some.index i.there in
    belongs c.args.search.now.shape R o c.args.dba c.in-Ok-born_at.born c.in-Some.index c.in-Ok-born_at.born e.extent true h.lawful.allowed h.there i e.at
    (c.in-Ok-born_at.ensures.says R o e.extent (l.stays_true R t) (search_on g.D.Disk.meaning c.args.store.now c.index_of.new.store _ R o c.args.search.now l h) e.at) (λ y. refl) (λ y. absurd (true≢false y))

pub returns-in-Err-born_at-clause-looked : goal.returns-in-Err-born_at-clause-looked
returns-in-Err-born_at-clause-looked g c = looked_on g.D.Disk.meaning c.args.store.now c.index_of.new.store c.born_at.new.store c.in-Ok.index (Err c.in-Err-born_at.fault) c.in-Ok.ensures.looked (looked_err g.D.Disk.meaning c.index_of.new.store c.born_at.new.store c.in-Err-born_at.fault c.in-Err-born_at.ensures.looked)

pub returns-in-Err-born_at-clause-sound : goal.returns-in-Err-born_at-clause-sound
returns-in-Err-born_at-clause-sound g c = λ R o t h n.
    let l = c.in-Ok.ensures.looked in
    let i = subst (StandsIn c.args.search.now.shape R o c.args.dba) c.in-Some.is (c.in-Ok.ensures.says R o t h) in
    let e = extent_there (extents_of R o) c.in-Some.index i.there in
    c.in-Err-born_at.ensures.sound R o e.extent (l.stays_true R t) (search_on g.D.Disk.meaning c.args.store.now c.index_of.new.store _ R o c.args.search.now l h) e.at (l.cause.kept n)
