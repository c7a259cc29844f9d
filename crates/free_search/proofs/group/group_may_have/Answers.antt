use Rattle.std.proofs.Common.{◌≡◌, ◌*◌, false, IfOk, sym, subst, true≢false}
use Rattle.seg_words.specs.Types.{EXTENTS_OF_L2}
use Rattle.store_core.proofs.Lookups.{looked_same}
use Rattle.free_search.specs.declared.look.Wanted.{Wanted}
use Rattle.free_search.specs.Looks.{NoneInGroup, row_sought}
use Rattle.free_search.proofs.group.group_may_have.Goals as goal

pub returns-in-Usable-clause-looked : goal.returns-in-Usable-clause-looked
returns-in-Usable-clause-looked g c = looked_same g.D.Disk.meaning c.args.store.now _ c.requires.unspent

pub returns-in-Usable-clause-says : goal.returns-in-Usable-clause-says
returns-in-Usable-clause-says g c = λ R t k f. absurd (true≢false f)

pub returns-in-Good-clause-says : goal.returns-in-Good-clause-says
returns-in-Good-clause-says g c = λ R t k.
    let l = c.args.look.now in
    subst (λ (w : Wanted). IfOk c.group_may_have_good.result (λ y. y ≡ false → NoneInGroup l.shape R (row_sought l) w (EXTENTS_OF_L2 * c.args.group))) (sym c.in-Good.is) (c.group_may_have_good.ensures.says R t k)
