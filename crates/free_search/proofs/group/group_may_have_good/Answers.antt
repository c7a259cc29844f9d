use Rattle.std.proofs.Common.{◌*◌, ◌∙◌, sym}
use Rattle.seg_words.specs.Types.{EXTENTS_OF_L2}
use Rattle.store_core.proofs.Lookups.{looked_ok}
use Rattle.free_search.specs.Looks.{row_sought}
use Rattle.free_search.proofs.Known.{fixed, segment_of}
use Rattle.free_search.proofs.Thirds.{group_none_good}
use Rattle.free_search.proofs.group.group_may_have_good.Goals as goal

pub returns-in-Ok-clause-looked : goal.returns-in-Ok-clause-looked
returns-in-Ok-clause-looked g c = looked_ok g.D.Disk.meaning c.args.store.now c.best_at_group.new.store c.in-Ok.best _ c.in-Ok.ensures.looked

pub returns-in-Ok-clause-says : goal.returns-in-Ok-clause-says
returns-in-Ok-clause-says g c = λ R t k f.
    let l = c.args.look.now in
    group_none_good l.shape R (row_sought l) (EXTENTS_OF_L2 * c.args.group) c.in-Ok.best (fixed g.D.Disk.meaning c.args.store.now R l t k).lawful.allowed (c.in-Ok.ensures.says R t (segment_of c.args.store.now.shape R l k)) (sym c.has_code.ensures ∙ f)

pub returns-in-Err-clause-sound : goal.returns-in-Err-clause-sound
returns-in-Err-clause-sound g c = λ R t k. c.in-Err.ensures.sound R t (segment_of c.args.store.now.shape R c.args.look.now k) c.requires.group c.requires.unspent
