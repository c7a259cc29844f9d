use Rattle.std.proofs.Common.{Ok}
use Rattle.space_usage.specs.declared.levels.Levels.{Levels}
use Rattle.store_core.proofs.Lookups.{looked_on, looked_err}
use Rattle.space_usage.proofs.Stored.{block_later}
use Rattle.space_usage.proofs.Drafting.{segment_block, segment_levels, segment_drafts}
use Rattle.space_usage.proofs.keeping.draft.Goals as goal

pub returns-in-Ok-clause-looked : goal.returns-in-Ok-clause-looked
returns-in-Ok-clause-looked g c = looked_on g.D.Disk.meaning c.args.store.now c.find_levels.new.store c.draft_by.new.store c.in-Ok.levels c.draft_by.result c.in-Ok.ensures.looked c.draft_by.ensures.looked

pub returns-in-Ok-clause-says : goal.returns-in-Ok-clause-says
returns-in-Ok-clause-says g c = λ R o h is.
    let M = g.D.Disk.meaning in
    let a = c.args.store.now in
    let b = c.find_levels.new.store in
    let p = c.in-Ok.ensures.looked in
    let s = c.args.segment.now in
    let later = block_later M a b R o c.args.dba (Ok c.in-Ok.levels) p h in
    segment_drafts a.shape b.shape R o c.args.dba c.args.class s c.draft_by.result is p.loan.shape
    (c.draft_by.ensures.says R (segment_block M R o c.args.dba b a.shape s later is) (segment_levels a.shape b.shape R o c.args.dba s c.in-Ok.levels is p.loan.shape (c.in-Ok.ensures.says R o h is)))

pub returns-in-Ok-clause-sound : goal.returns-in-Ok-clause-sound
returns-in-Ok-clause-sound g c = λ R o h is n.
    let M = g.D.Disk.meaning in
    let a = c.args.store.now in
    let b = c.find_levels.new.store in
    let p = c.in-Ok.ensures.looked in
    let s = c.args.segment.now in
    let later = block_later M a b R o c.args.dba (Ok c.in-Ok.levels) p h in
    c.draft_by.ensures.sound R (segment_block M R o c.args.dba b a.shape s later is) (segment_levels a.shape b.shape R o c.args.dba s c.in-Ok.levels is p.loan.shape (c.in-Ok.ensures.says R o h is)) (p.cause.kept n)

pub returns-in-Err-clause-looked : goal.returns-in-Err-clause-looked
returns-in-Err-clause-looked g c = looked_err {A = Levels} g.D.Disk.meaning c.args.store.now c.find_levels.new.store c.in-Err.fault c.in-Err.ensures.looked

pub returns-in-Err-clause-sound : goal.returns-in-Err-clause-sound
returns-in-Err-clause-sound g c = λ R o h is n. c.in-Err.ensures.sound R o h is n
