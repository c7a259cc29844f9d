use Rattle.std.proofs.Common.{ℕ, Ok}
use Rattle.redo_model.specs.Model.{extents_of}
use Rattle.store_core.proofs.Lookups.{looked_on, looked_err}
use Rattle.space_usage.proofs.Walks.{knows_later, numbered}
use Rattle.space_usage.proofs.finding.is_row_at.Goals as goal

pub returns-in-Ok-clause-looked : goal.returns-in-Ok-clause-looked
returns-in-Ok-clause-looked g c = looked_on g.D.Disk.meaning c.args.store.now c.extent_number.new.store c.is_row_in.new.store c.in-Ok.extent c.is_row_in.result c.in-Ok.ensures.looked c.is_row_in.ensures.looked

pub returns-in-Ok-clause-says : goal.returns-in-Ok-clause-says
returns-in-Ok-clause-says g c = λ R o k t.
    let n = numbered (extents_of R o) c.args.index c.in-Ok.extent (c.in-Ok.ensures.says R o k.holds k.table k.segment_is) in
    c.is_row_in.ensures.says R o n.extent (knows_later g.D.Disk.meaning c.args.store.now c.extent_number.new.store R o c.args.shape.now c.args.segment.now (Ok c.in-Ok.extent) c.in-Ok.ensures.looked k) n.at n.number t.0

pub returns-in-Ok-clause-sound : goal.returns-in-Ok-clause-sound
returns-in-Ok-clause-sound g c = λ R o k t u.
    let n = numbered (extents_of R o) c.args.index c.in-Ok.extent (c.in-Ok.ensures.says R o k.holds k.table k.segment_is) in
    c.is_row_in.ensures.sound R o n.extent (knows_later g.D.Disk.meaning c.args.store.now c.extent_number.new.store R o c.args.shape.now c.args.segment.now (Ok c.in-Ok.extent) c.in-Ok.ensures.looked k) n.at n.number t.0

pub returns-in-Err-clause-looked : goal.returns-in-Err-clause-looked
returns-in-Err-clause-looked g c = looked_err {A = ℕ} g.D.Disk.meaning c.args.store.now c.extent_number.new.store c.in-Err.fault c.in-Err.ensures.looked

pub returns-in-Err-clause-sound : goal.returns-in-Err-clause-sound
returns-in-Err-clause-sound g c = λ R o k t u. c.in-Err.ensures.sound R o k.holds k.table k.segment_is t.1 u

pub is_row_in-requires-clause-unspent : goal.is_row_in-requires-clause-unspent
is_row_in-requires-clause-unspent g c = c.in-Ok.ensures.looked.cause.kept c.in-Ok.ensures.looked.cause.goes_on
