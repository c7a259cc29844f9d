use Rattle.usage_laws.specs.Types.{ruled_class}
use Rattle.space_usage.proofs.Bitmaps.{class_read, rows_have}
use Rattle.space_usage.proofs.Fixes.{own_told}
use Rattle.space_usage.proofs.fixing.own_class_by.Goals as goal

pub returns-clause-says : goal.returns-clause-says
returns-clause-says g c = λ R o h is q. own_told g.D.Disk.meaning R o c.args.dba c.args.store.now c.args.segment.now c.args.table.now c.ask.result h is q c.requires (c.ask.ensures.says R h.holds)

pub returns-clause-sound : goal.returns-clause-sound
returns-clause-sound g c = λ R o h is q n.
    let s = c.args.store.now in
    c.ask.ensures.sound R (ruled_class R o c.args.dba) h.holds n (rows_have s.shape R o c.args.dba h.holds.list.within h.holds.lawful h.table h.here) (class_read s.shape R o c.args.dba c.args.segment.now.pctfree c.args.table.now h.holds.list.within h.holds.lawful h.here q is.pctfree c.requires)
