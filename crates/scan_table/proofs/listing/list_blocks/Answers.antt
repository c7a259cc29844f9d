use Rattle.std.proofs.Common.{arith}
use Rattle.std.specs.Prelude.{Ok, Err}
use Rattle.store_core.proofs.Lookups.{looked_err, looked_ok, looked_on, looked_same}
use Rattle.scan_table.proofs.Locating.{listed_all, listed_next, listed_short, listing_on, place_now}
use Rattle.scan_table.proofs.listing.list_blocks.Goals as goal

pub loop-position-init : goal.loop-position-init
loop-position-init g c = record { looked = looked_same g.D.Disk.meaning c.args.store.now tt c.requires.unspent; place = c.place_at-next.ensures; listed = λ R o t h. c.new-blocks.ensures }

pub returns-in-None-clause-looked : goal.returns-in-None-clause-looked
returns-in-None-clause-looked g c = looked_ok g.D.Disk.meaning c.args.store.now c.loop-position.store tt _ c.loop-position.invariant.looked

pub returns-in-None-clause-says : goal.returns-in-None-clause-says
returns-in-None-clause-says g c = λ R o t h.
    let m = c.loop-position-test.true in
    listed_short c.args.store.now.shape R o c.args.listing.now c.loop-position.position c.loop-position.blocks h (c.loop-position.invariant.listed R o t h) (omega (arith, m)) (place_now c.args.listing.now c.loop-position.next _ c.loop-position.position c.in-None.is c.loop-position.invariant.place)

pub returns-in-Err-clause-looked : goal.returns-in-Err-clause-looked
returns-in-Err-clause-looked g c = looked_err {A = Unit {0}} g.D.Disk.meaning c.args.store.now c.add_block.new.store c.in-Err.fault (looked_on g.D.Disk.meaning c.args.store.now c.loop-position.store c.add_block.new.store tt (Err c.in-Err.fault) c.loop-position.invariant.looked c.in-Err.ensures.looked)

pub returns-in-Err-clause-sound : goal.returns-in-Err-clause-sound
returns-in-Err-clause-sound g c = λ R o t h.
    let l = c.loop-position.invariant.looked in
    let p = place_now c.args.listing.now c.loop-position.next _ c.loop-position.position c.in-Some.is c.loop-position.invariant.place in
    c.in-Err.ensures.sound R o c.loop-position.position (l.stays_true R t) (listing_on g.D.Disk.meaning c.args.store.now c.loop-position.store (Ok tt) R o c.args.listing.now l h) p (l.cause.kept c.requires.unspent)

pub returns-clause-looked : goal.returns-clause-looked
returns-clause-looked g c = looked_ok g.D.Disk.meaning c.args.store.now c.loop-position.store tt _ c.loop-position.invariant.looked

pub returns-clause-says : goal.returns-clause-says
returns-clause-says g c = λ R o t h. let m = c.loop-position-test.false in listed_all c.args.store.now.shape R o c.args.listing.now c.loop-position.position c.loop-position.blocks h (c.loop-position.invariant.listed R o t h) (omega (arith, m))

pub loop-position-preserved : goal.loop-position-preserved
loop-position-preserved g c =
    let p = place_now c.args.listing.now c.loop-position.next _ c.loop-position.position c.in-Some.is c.loop-position.invariant.place in
    listed_next g.D.Disk.meaning c.args.store.now c.loop-position.store c.add_block.new.store c.args.listing.now c.in-Some.here _ c.loop-position.position c.loop-position.blocks c.add_block.new.blocks c.loop-position.invariant.looked p c.loop-position.invariant.listed c.in-Ok.ensures.looked (c.next-next.ensures c.loop-position.position p)
    (λ R o t h. c.in-Ok.ensures.says R o c.loop-position.position t h p)
