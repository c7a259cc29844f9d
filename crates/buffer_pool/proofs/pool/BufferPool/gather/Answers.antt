use Rattle.std.proofs.Common.{subst}
use Rattle.seg_words.specs.Types.{Shape}
use Rattle.buffer_pool.specs.Preparing.{AreFramed}
use Rattle.buffer_pool.proofs.Stores.{looks_kept, looks_then}
use Rattle.buffer_pool.proofs.Gathered.{why_then}
use Rattle.buffer_pool.proofs.pool.BufferPool.gather.Goals as goal

pub returns-in-Ok-clause-looks : goal.returns-in-Ok-clause-looks
returns-in-Ok-clause-looks g c =
    let kept = looks_kept g.D.Disk.meaning c.args.disk.now c.args.self.now c.reserve.new.self c.reserve.ensures.shape c.reserve.ensures.dirty c.reserve.ensures.same_dirty c.reserve.ensures.keeps in
    looks_then g.D.Disk.meaning c.args.disk.now c.args.disk.now c.fetch_all.new.disk c.args.self.now c.reserve.new.self c.fetch_all.new.self kept c.fetch_all.ensures.looks

pub returns-in-Err-clause-looks : goal.returns-in-Err-clause-looks
returns-in-Err-clause-looks g c =
    let kept = looks_kept g.D.Disk.meaning c.args.disk.now c.args.self.now c.reserve.new.self c.reserve.ensures.shape c.reserve.ensures.dirty c.reserve.ensures.same_dirty c.reserve.ensures.keeps in
    looks_then g.D.Disk.meaning c.args.disk.now c.args.disk.now c.fetch_all.new.disk c.args.self.now c.reserve.new.self c.fetch_all.new.self kept c.fetch_all.ensures.looks

pub returns-in-Ok-clause-has : goal.returns-in-Ok-clause-has
returns-in-Ok-clause-has g c = subst (λ (sh : Shape). AreFramed sh c.args.blocks.now c.fetch_all.new.self.held) c.reserve.ensures.shape c.in-Ok.ensures.has

pub returns-in-Err-clause-why : goal.returns-in-Err-clause-why
returns-in-Err-clause-why g c = λ pages s.
    let kept = looks_kept g.D.Disk.meaning c.args.disk.now c.args.self.now c.reserve.new.self c.reserve.ensures.shape c.reserve.ensures.dirty c.reserve.ensures.same_dirty c.reserve.ensures.keeps in
    why_then g.D.Disk.meaning c.args.disk.now c.args.disk.now c.args.self.now c.reserve.new.self kept pages s c.args.blocks.now c.in-Err.fault c.in-Err.ensures.why
