use Rattle.std.proofs.Common.{sym, true≢false}
use Rattle.store_core.proofs.Lookups.{looked_on, refused_after}
use Rattle.row_change.proofs.Having.{data_has}
use Rattle.row_change.proofs.Searching.{search_on, still_unspent}
use Rattle.row_change.proofs.slots.look_at_slot.Goals as goal

pub returns-in-Err-clause-sound : goal.returns-in-Err-clause-sound
returns-in-Err-clause-sound g c = λ R o i t h at n. c.in-Err.ensures.sound R t.list n (data_has c.args.store.now.shape R o i c.args.at.dba c.args.search.now h at)

pub sight_by-requires : goal.sight_by-requires
sight_by-requires g c = still_unspent g.D.Disk.meaning c.args.store.now c.fetch.new.self c.in-Ok.field-0 c.in-Ok.ensures.looked

pub returns-in-Ok-told_shown-clause-looked : goal.returns-in-Ok-told_shown-clause-looked
returns-in-Ok-told_shown-clause-looked g c = looked_on g.D.Disk.meaning c.args.store.now c.fetch.new.self c.sight_by.new.store c.in-Ok.field-0 c.sight_by.result c.in-Ok.ensures.looked c.sight_by.ensures.looked

pub returns-in-Ok-told_shown-clause-says : goal.returns-in-Ok-told_shown-clause-says
returns-in-Ok-told_shown-clause-says g c = λ R o i t h at.
    let u = c.in-Ok.ensures.looked.stays_true R t in
    let k = search_on g.D.Disk.meaning c.args.store.now c.fetch.new.self _ R o c.args.search.now c.in-Ok.ensures.looked h in
    c.sight_by.ensures.says R o u k (c.in-Ok-told_shown.ensures.says R o i u k at)

pub returns-in-Ok-told_shown-clause-sound : goal.returns-in-Ok-told_shown-clause-sound
returns-in-Ok-told_shown-clause-sound g c = λ R o i t h at n.
    let u = c.in-Ok.ensures.looked.stays_true R t in
    let k = search_on g.D.Disk.meaning c.args.store.now c.fetch.new.self _ R o c.args.search.now c.in-Ok.ensures.looked h in
    c.sight_by.ensures.sound R o u k (c.in-Ok-told_shown.ensures.says R o i u k at)

pub returns-in-Err-told_shown-clause-looked : goal.returns-in-Err-told_shown-clause-looked
returns-in-Err-told_shown-clause-looked g c = refused_after g.D.Disk.meaning c.args.store.now c.fetch.new.self c.refuse.new.self c.in-Ok.field-0 c.refuse.result c.in-Ok.ensures.looked c.refuse.ensures.looked

pub returns-in-Err-told_shown-clause-sound : goal.returns-in-Err-told_shown-clause-sound
returns-in-Err-told_shown-clause-sound g c = λ R o i t h at n. absurd (true≢false (sym (c.in-Err-told_shown.ensures.right R o i (c.in-Ok.ensures.looked.stays_true R t) (search_on g.D.Disk.meaning c.args.store.now c.fetch.new.self _ R o c.args.search.now c.in-Ok.ensures.looked h) at)))
