use Rattle.std.proofs.Common.{◌≡◌, ℕ, List, IfOk, subst, rules}
use Rattle.seg_words.specs.Types.{Shape}
use Rattle.redo_laws.specs.Scan.{scan_list}
use Rattle.store_core.proofs.Lookups.{looked_on}
use Rattle.scan_table.proofs.listing.list_table.Goals as goal

pub returns-in-Ok-clause-looked : goal.returns-in-Ok-clause-looked
returns-in-Ok-clause-looked g c = looked_on g.D.Disk.meaning c.args.store.now c.read_segment.new.store c.list_blocks.new.store c.in-Ok.segment c.list_blocks.result c.in-Ok.ensures.looked c.list_blocks.ensures.looked

pub returns-in-Ok-clause-says : goal.returns-in-Ok-clause-says
returns-in-Ok-clause-says g c = λ R t i.
    subst (λ (sh : Shape). IfOk c.list_blocks.result (λ (blocks : List ℕ). blocks ≡ scan_list sh R c.args.obj)) c.shape-shape.ensures
    (c.list_blocks.ensures.says R c.args.obj (c.in-Ok.ensures.looked.stays_true R t) (search rules))
