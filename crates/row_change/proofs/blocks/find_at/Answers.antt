use Rattle.store_core.proofs.Lookups.{looked_on}
use Rattle.row_change.proofs.Positions.{stands_at, block_is, finds_told}
use Rattle.row_change.proofs.Searching.{search_on, still_unspent}
use Rattle.row_change.proofs.blocks.find_at.Goals as goal

pub returns-in-Err-clause-sound : goal.returns-in-Err-clause-sound
returns-in-Err-clause-sound g c = λ R o position t h p n.
    let s = stands_at c.args.search.now.shape R o c.args.here.now position p in
    c.in-Err.ensures.sound R o s.extent t h s.at s.nth n

pub returns-in-Ok-clause-looked : goal.returns-in-Ok-clause-looked
returns-in-Ok-clause-looked g c = looked_on g.D.Disk.meaning c.args.store.now c.block_at.new.store c.find_in.new.store c.in-Ok.dba c.find_in.result c.in-Ok.ensures.looked c.find_in.ensures.looked

pub returns-in-Ok-clause-says : goal.returns-in-Ok-clause-says
returns-in-Ok-clause-says g c = λ R o position t h p.
    let s = stands_at c.args.search.now.shape R o c.args.here.now position p in
    let b = block_is c.args.search.now.shape R o c.args.here.now position c.in-Ok.dba s (c.in-Ok.ensures.says R o s.extent t h s.at) in
    finds_told R c.args.search.now o c.args.row c.args.here.now position c.in-Ok.dba c.find_in.result b (c.find_in.ensures.says R o position (c.in-Ok.ensures.looked.stays_true R t) (search_on g.D.Disk.meaning c.args.store.now c.block_at.new.store _ R o c.args.search.now c.in-Ok.ensures.looked h) b)

pub returns-in-Ok-clause-sound : goal.returns-in-Ok-clause-sound
returns-in-Ok-clause-sound g c = λ R o position t h p n.
    let s = stands_at c.args.search.now.shape R o c.args.here.now position p in
    let b = block_is c.args.search.now.shape R o c.args.here.now position c.in-Ok.dba s (c.in-Ok.ensures.says R o s.extent t h s.at) in
    c.find_in.ensures.sound R o position (c.in-Ok.ensures.looked.stays_true R t) (search_on g.D.Disk.meaning c.args.store.now c.block_at.new.store _ R o c.args.search.now c.in-Ok.ensures.looked h) b (still_unspent g.D.Disk.meaning c.args.store.now c.block_at.new.store c.in-Ok.dba c.in-Ok.ensures.looked)
