use Rattle.std.proofs.Common.{IfOk, arith, sym, subst}
use Rattle.store_core.proofs.Lookups.{looked_same}
use Rattle.free_search.specs.declared.look.Wanted.{Wanted}
use Rattle.free_search.specs.Looks.{NoneInRun, row_sought}
use Rattle.free_search.proofs.Known.{fixed, segment_of}
use Rattle.free_search.proofs.Extents.{ok_map}
use Rattle.free_search.proofs.Bests.{lacks_wanted}
use Rattle.free_search.proofs.Walking.{start_below}
use Rattle.free_search.proofs.walk.next_index.Goals as goal

pub returns-in-Usable-clause-looked : goal.returns-in-Usable-clause-looked
returns-in-Usable-clause-looked g c = looked_same g.D.Disk.meaning c.args.store.now _ c.requires.unspent

pub returns-in-Usable-clause-says : goal.returns-in-Usable-clause-says
returns-in-Usable-clause-says g c = λ R t k index e at l u. absurd (omega (arith, l, u))

pub returns-in-Usable-clause-within : goal.returns-in-Usable-clause-within
returns-in-Usable-clause-within g c = (let l = c.requires.range in (omega arith, omega (arith, l)))

pub returns-in-Good-clause-says : goal.returns-in-Good-clause-says
returns-in-Good-clause-says g c = λ R t k.
    let l = c.args.look.now in
    subst (λ (w : Wanted). IfOk c.next_good.result (NoneInRun l.shape R (row_sought l) w c.args.index)) (sym c.in-Good.is)
    (ok_map _ _ c.next_good.result (λ n lacks. lacks_wanted l.shape R (row_sought l) c.args.index n (fixed g.D.Disk.meaning c.args.store.now R l t k).lawful.allowed lacks)
    (c.next_good.ensures.says R t (segment_of c.args.store.now.shape R l k) (start_below R l c.args.store.now.shape c.args.start c.args.index c.args.to k c.requires.order c.requires.range c.requires.few)))

pub returns-in-Good-clause-sound : goal.returns-in-Good-clause-sound
returns-in-Good-clause-sound g c = λ R t k m.
    let l = c.args.look.now in
    c.next_good.ensures.sound R t (segment_of c.args.store.now.shape R l k) (start_below R l c.args.store.now.shape c.args.start c.args.index c.args.to k c.requires.order c.requires.range c.requires.few) m c.requires.unspent
