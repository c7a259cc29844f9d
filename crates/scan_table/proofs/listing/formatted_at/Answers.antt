use Rattle.std.specs.Prelude.{Ok, Err}
use Rattle.store_core.proofs.Lookups.{looked_err, looked_ok, looked_on}
use Rattle.scan_table.proofs.Going.{still_unspent}
use Rattle.scan_table.proofs.Locating.{code_at, data_at, first_at, formatted_told, stands_at}
use Rattle.scan_table.proofs.listing.formatted_at.Goals as goal

pub returns-in-Err-clause-sound : goal.returns-in-Err-clause-sound
returns-in-Err-clause-sound g c = λ R o position t h w n. let s = stands_at c.args.store.now.shape R o c.args.listing.now c.args.place.now position h w in c.in-Err.ensures.sound R o s.extent t h s.at s.nth n

pub returns-in-Err-code_at-clause-looked : goal.returns-in-Err-code_at-clause-looked
returns-in-Err-code_at-clause-looked g c = looked_err g.D.Disk.meaning c.args.store.now c.code_at.new.store c.in-Err-code_at.fault (looked_on g.D.Disk.meaning c.args.store.now c.block_at.new.store c.code_at.new.store c.in-Ok.found (Err c.in-Err-code_at.fault) c.in-Ok.ensures.looked c.in-Err-code_at.ensures.looked)

pub returns-in-Err-code_at-clause-sound : goal.returns-in-Err-code_at-clause-sound
returns-in-Err-code_at-clause-sound g c = λ R o position t h w n.
    let l = c.in-Ok.ensures.looked in
    let s = stands_at c.args.store.now.shape R o c.args.listing.now c.args.place.now position h w in
    let f = c.in-Ok.ensures.says R o s.extent t h s.at in
    c.in-Err-code_at.ensures.sound R o c.args.place.now.index s.extent (l.stays_true R t) h.there s.at (first_at c.args.store.now.shape c.block_at.new.store.shape s.extent c.args.listing.now c.in-Ok.found.first l.loan.shape h.shape_is f.first_is) s.few
    (still_unspent g.D.Disk.meaning c.args.store.now c.block_at.new.store c.in-Ok.found l)

pub returns-in-Ok-code_at-clause-looked : goal.returns-in-Ok-code_at-clause-looked
returns-in-Ok-code_at-clause-looked g c = looked_ok g.D.Disk.meaning c.args.store.now c.code_at.new.store c.in-Ok-code_at.code _ (looked_on g.D.Disk.meaning c.args.store.now c.block_at.new.store c.code_at.new.store c.in-Ok.found (Ok c.in-Ok-code_at.code) c.in-Ok.ensures.looked c.in-Ok-code_at.ensures.looked)

pub returns-in-Ok-code_at-clause-says : goal.returns-in-Ok-code_at-clause-says
returns-in-Ok-code_at-clause-says g c = λ R o position t h w.
    let l = c.in-Ok.ensures.looked in
    let q = c.args.listing.now in
    let s = stands_at c.args.store.now.shape R o q c.args.place.now position h w in
    let f = c.in-Ok.ensures.says R o s.extent t h s.at in
    let says = c.in-Ok-code_at.ensures.says R o c.args.place.now.index s.extent (l.stays_true R t) s.at (first_at c.args.store.now.shape c.block_at.new.store.shape s.extent q c.in-Ok.found.first l.loan.shape h.shape_is f.first_is)
    (data_at c.args.store.now.shape c.block_at.new.store.shape s.extent q c.args.place.now.index c.args.place.now.nth c.in-Ok.found.first l.loan.shape h.shape_is f.first_is s.among) in
    formatted_told c.args.store.now.shape R o q c.args.place.now position c.in-Ok.found.dba c.in-Ok-code_at.code c.if_formatted.result h s f.block_is
    (code_at c.args.store.now.shape c.block_at.new.store.shape R s.extent q c.args.place.now.nth c.in-Ok.found.first c.in-Ok.found.dba c.in-Ok-code_at.code l.loan.shape h.shape_is f says) c.if_formatted.ensures
