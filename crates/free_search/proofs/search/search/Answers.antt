use Rattle.std.proofs.Common.{◌∙◌, sym}
use Rattle.store_core.proofs.Lookups.{looked_on, looked_ok}
use Rattle.free_search.proofs.Known.{knows_later}
use Rattle.free_search.proofs.Extents.{ok_map}
use Rattle.free_search.proofs.Finding.{found_good, found_last}
use Rattle.free_search.proofs.search.search.Goals as goal

pub returns-in-Ok-Some-clause-looked : goal.returns-in-Ok-Some-clause-looked
returns-in-Ok-Some-clause-looked g c = looked_ok g.D.Disk.meaning c.args.store.now c.good_block.new.store c.in-Ok-Some.field-0 _ c.in-Ok-Some.ensures.looked

pub returns-in-Ok-Some-clause-says : goal.returns-in-Ok-Some-clause-says
returns-in-Ok-Some-clause-says g c = λ R t k. found_good R c.args.look.now c.args.hint c.in-Ok-Some.dba (sym c.in-Ok-Some.field-0-is ∙ c.in-Ok-Some.ensures.says R t k)

pub returns-in-Ok-None-clause-looked : goal.returns-in-Ok-None-clause-looked
returns-in-Ok-None-clause-looked g c = looked_on g.D.Disk.meaning c.args.store.now c.good_block.new.store c.last_resort.new.store c.in-Ok-None.field-0 c.last_resort.result c.in-Ok-None.ensures.looked c.last_resort.ensures.looked

pub returns-in-Ok-None-clause-says : goal.returns-in-Ok-None-clause-says
returns-in-Ok-None-clause-says g c = λ R t k. ok_map _ _ c.last_resort.result (λ f e. found_last R c.args.look.now c.args.hint f (sym c.in-Ok-None.field-0-is ∙ c.in-Ok-None.ensures.says R t k) e)
    (c.last_resort.ensures.says R (c.in-Ok-None.ensures.looked.stays_true R t) (knows_later g.D.Disk.meaning c.args.store.now c.good_block.new.store R c.args.look.now c.in-Ok-None.ensures.looked.loan k))

pub returns-in-Ok-None-clause-sound : goal.returns-in-Ok-None-clause-sound
returns-in-Ok-None-clause-sound g c = λ R t k. c.last_resort.ensures.sound R (c.in-Ok-None.ensures.looked.stays_true R t) (knows_later g.D.Disk.meaning c.args.store.now c.good_block.new.store R c.args.look.now c.in-Ok-None.ensures.looked.loan k)
