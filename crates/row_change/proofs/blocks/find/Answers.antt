use Rattle.std.proofs.Common.{arith, subst}
use Rattle.row_change.specs.Locating.{FindsAt}
use Rattle.std.specs.Prelude.{Ok, Err}
use Rattle.store_core.proofs.Lookups.{looked_on, looked_ok, looked_same}
use Rattle.row_change.proofs.Positions.{none_first, ends_at_high, ends_at_last, place_in}
use Rattle.row_change.proofs.Searching.{search_on, places_next, place_now}
use Rattle.row_change.proofs.blocks.find.Goals as goal

pub loop-position-init : goal.loop-position-init
loop-position-init g c = record { looked = looked_same g.D.Disk.meaning c.args.store.now tt c.requires.unspent; place = c.place_at-next.ensures; none = λ R o t h. none_first R c.args.search.now o c.args.row }

pub returns-in-None-clause-looked : goal.returns-in-None-clause-looked
returns-in-None-clause-looked g c = looked_ok g.D.Disk.meaning c.args.store.now c.loop-position.store tt _ c.loop-position.invariant.looked

pub returns-in-None-clause-says : goal.returns-in-None-clause-says
returns-in-None-clause-says g c = λ R o t h. ends_at_last c.args.store.now.shape R o c.args.row c.args.search.now c.loop-position.position h (c.loop-position.invariant.none R o t h) (place_now c.args.search.now c.loop-position.next _ c.loop-position.position c.in-None.is c.loop-position.invariant.place)

pub returns-in-Err-clause-looked : goal.returns-in-Err-clause-looked
returns-in-Err-clause-looked g c = looked_on g.D.Disk.meaning c.args.store.now c.loop-position.store c.find_at.new.store tt (Err c.in-Err.fault) c.loop-position.invariant.looked c.in-Err.ensures.looked

pub returns-in-Err-clause-sound : goal.returns-in-Err-clause-sound
returns-in-Err-clause-sound g c = λ R o t h.
    let l = c.loop-position.invariant.looked in
    let p = place_now c.args.search.now c.loop-position.next _ c.loop-position.position c.in-Some.is c.loop-position.invariant.place in
    c.in-Err.ensures.sound R o c.loop-position.position (l.stays_true R t) (search_on g.D.Disk.meaning c.args.store.now c.loop-position.store (Ok tt) R o c.args.search.now l h) (place_in c.args.store.now.shape R o c.args.search.now c.in-Some.here c.loop-position.position h p) (l.cause.kept c.requires.unspent)

pub returns-in-Ok-Some-clause-looked : goal.returns-in-Ok-Some-clause-looked
returns-in-Ok-Some-clause-looked g c = looked_ok g.D.Disk.meaning c.args.store.now c.find_at.new.store c.in-Ok-Some.field-0 _ (looked_on g.D.Disk.meaning c.args.store.now c.loop-position.store c.find_at.new.store tt (Ok c.in-Ok-Some.field-0) c.loop-position.invariant.looked c.in-Ok-Some.ensures.looked)

pub returns-in-Ok-Some-clause-says : goal.returns-in-Ok-Some-clause-says
returns-in-Ok-Some-clause-says g c = λ R o t h.
    let l = c.loop-position.invariant.looked in
    let p = place_now c.args.search.now c.loop-position.next _ c.loop-position.position c.in-Some.is c.loop-position.invariant.place in
    subst (FindsAt R c.args.search.now o c.args.row c.loop-position.position) c.in-Ok-Some.field-0-is (c.in-Ok-Some.ensures.says R o c.loop-position.position (l.stays_true R t) (search_on g.D.Disk.meaning c.args.store.now c.loop-position.store (Ok tt) R o c.args.search.now l h) (place_in c.args.store.now.shape R o c.args.search.now c.in-Some.here c.loop-position.position h p))

pub returns-clause-looked : goal.returns-clause-looked
returns-clause-looked g c = looked_ok g.D.Disk.meaning c.args.store.now c.loop-position.store tt _ c.loop-position.invariant.looked

pub returns-clause-says : goal.returns-clause-says
returns-clause-says g c = λ R o t h. let m = c.loop-position-test.false in ends_at_high c.args.store.now.shape R o c.args.row c.args.search.now c.loop-position.position h (c.loop-position.invariant.none R o t h) (omega (arith, m))

pub loop-position-preserved : goal.loop-position-preserved
loop-position-preserved g c =
    let p = place_now c.args.search.now c.loop-position.next _ c.loop-position.position c.in-Some.is c.loop-position.invariant.place in
    places_next g.D.Disk.meaning c.args.store.now c.loop-position.store c.find_at.new.store c.args.search.now c.args.row c.loop-position.next _ c.loop-position.position c.in-Ok-None.field-0 c.loop-position.invariant c.in-Ok-None.ensures.looked (c.next-next.ensures c.loop-position.position p)
    (λ R o t h. subst (FindsAt R c.args.search.now o c.args.row c.loop-position.position) c.in-Ok-None.field-0-is (c.in-Ok-None.ensures.says R o c.loop-position.position t h (place_in c.loop-position.store.shape R o c.args.search.now c.in-Some.here c.loop-position.position h p)))
