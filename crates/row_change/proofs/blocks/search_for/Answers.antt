use Rattle.std.proofs.Common.{refl}
use Rattle.std.specs.Prelude.{Ok}
use Rattle.store_core.proofs.Lookups.{looked_on, looked_ok, refused_after}
use Rattle.row_change.proofs.Positions.{searched}
use Rattle.row_change.proofs.blocks.search_for.Goals as goal

pub returns-in-Err-clause-sound : goal.returns-in-Err-clause-sound
returns-in-Err-clause-sound g c = λ R t i n. c.in-Err.ensures.sound R t n

pub returns-in-Ok-read_segment-clause-looked : goal.returns-in-Ok-read_segment-clause-looked
returns-in-Ok-read_segment-clause-looked g c = looked_ok g.D.Disk.meaning c.args.store.now c.read_segment.new.store c.in-Ok-read_segment.segment _ (looked_on g.D.Disk.meaning c.args.store.now c.copy_table.new.self c.read_segment.new.store c.in-Ok.table (Ok c.in-Ok-read_segment.segment) c.in-Ok.ensures.looked c.in-Ok-read_segment.ensures.looked)

pub returns-in-Ok-read_segment-clause-says : goal.returns-in-Ok-read_segment-clause-says
returns-in-Ok-read_segment-clause-says g c = λ R t i w.
    let l = c.in-Ok.ensures.looked in
    searched c.args.store.now.shape c.copy_table.new.self.shape R c.args.obj c.args.own _ c.shape-shape.ensures l.loan.shape t.list.within t.lawful i w (c.in-Ok.ensures.holds R t) (c.commits-start.ensures.list R t.list)
    (c.in-Ok-read_segment.ensures.says R (l.stays_true R t) i) refl

pub returns-in-Err-read_segment-clause-looked : goal.returns-in-Err-read_segment-clause-looked
returns-in-Err-read_segment-clause-looked g c = refused_after g.D.Disk.meaning c.args.store.now c.copy_table.new.self c.read_segment.new.store c.in-Ok.table c.in-Err-read_segment.fault c.in-Ok.ensures.looked c.in-Err-read_segment.ensures.looked
