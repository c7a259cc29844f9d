use Rattle.std.proofs.Common.{not, eqb, ap, ◌∙◌}
use Rattle.seg_words.specs.Types.{Class as BlockClass}
use Rattle.usage_laws.specs.Types.{ruled_class}
use Rattle.store_core.proofs.Lookups.{looked_ok, looked_err, looked_same}
use Rattle.space_usage.proofs.Bitmaps.{class_read, class_told, rows_have}
use Rattle.space_usage.proofs.Walks.{inexact_told, exact_free, row_known}
use Rattle.space_usage.proofs.counting.is_inexact.Goals as goal

pub returns-then-block-eq0-clause-looked : goal.returns-then-block-eq0-clause-looked
returns-then-block-eq0-clause-looked g c = looked_same g.D.Disk.meaning c.args.store.now _ c.requires.unspent

pub returns-then-block-eq0-clause-says : goal.returns-then-block-eq0-clause-says
returns-then-block-eq0-clause-says g c = λ R o n k h l w. exact_free c.args.store.now.shape R o n c.args.block k.holds.lawful.allowed w c.if-block-eq0.true

pub returns-in-Ok-clause-looked : goal.returns-in-Ok-clause-looked
returns-in-Ok-clause-looked g c = looked_ok g.D.Disk.meaning c.args.store.now c.ask.new.store c.in-Ok.class _ c.in-Ok.ensures.looked

pub returns-in-Ok-clause-says : goal.returns-in-Ok-clause-says
returns-in-Ok-clause-says g c = λ R o n k h l w.
    let s = c.args.store.now in
    let row = row_known g.D.Disk.meaning R o n s c.args.segment.now c.args.block k l w c.if-block-eq0.false in
    let class = class_told s.shape R o c.args.block.dba c.args.segment.now.pctfree c.args.table.now c.in-Ok.class k.holds.list.within k.holds.lawful row h k.segment_is.pctfree c.requires.percent (c.in-Ok.ensures.says R k.holds) in
    ap (λ m. not (eqb m c.args.block.code)) c.class_code.ensures.code ∙ inexact_told s.shape R o n c.args.block c.in-Ok.class k.holds.lawful.allowed w c.if-block-eq0.false class

pub returns-in-Err-clause-looked : goal.returns-in-Err-clause-looked
returns-in-Err-clause-looked g c = looked_err {A = BlockClass} g.D.Disk.meaning c.args.store.now c.ask.new.store c.in-Err.fault c.in-Err.ensures.looked

pub returns-in-Err-clause-sound : goal.returns-in-Err-clause-sound
returns-in-Err-clause-sound g c = λ R o n k h l w.
    let s = c.args.store.now in
    let row = row_known g.D.Disk.meaning R o n s c.args.segment.now c.args.block k l w c.if-block-eq0.false in
    c.in-Err.ensures.sound R (ruled_class R o c.args.block.dba) k.holds c.requires.unspent (rows_have s.shape R o c.args.block.dba k.holds.list.within k.holds.lawful k.table row) (class_read s.shape R o c.args.block.dba c.args.segment.now.pctfree c.args.table.now k.holds.list.within k.holds.lawful row h k.segment_is.pctfree c.requires.percent)
