use Rattle.std.proofs.Common.{Option, subst}
use Rattle.segment_read.specs.declared.segment.Segment.{Segment}
use Rattle.store_core.proofs.Additions.{tried_on, tried_none}
use Rattle.space_usage.specs.Fixing.{SegmentTold, store_part}
use Rattle.space_usage.proofs.Fixes.{fixed_on, fixed_none, fixed_away, known_block, known_segment, percent_told}
use Rattle.space_usage.proofs.Stored.{tried_looked}
use Rattle.space_usage.proofs.fixing.fix_status.Goals as goal

pub returns-in-Ok-Some-clause-fixes : goal.returns-in-Ok-Some-clause-fixes
returns-in-Ok-Some-clause-fixes g c = λ R t i.
    let M = g.D.Disk.meaning in
    let a = c.args.store.now in
    let b = c.find_block.new.store in
    let p = c.in-Ok-Some.ensures.looked in
    let found = subst (SegmentTold a.shape R c.args.obj c.args.dba) c.in-Ok-Some.field-0-is (c.in-Ok-Some.ensures.says R t i) in
    fixed_on M R c.args.obj c.args.dba c.args.value a b c.fix_in.new.store c.in-Ok-Some.field-0 c.fix_in.result t p
    (c.fix_in.ensures.fixes R c.args.obj (known_block M a b R c.args.obj c.args.dba c.in-Ok-Some.segment c.in-Ok-Some.field-0 p t i found) (known_segment M a b R c.args.obj c.args.dba c.in-Ok-Some.segment c.in-Ok-Some.field-0 p found))

pub returns-in-Ok-Some-clause-tried : goal.returns-in-Ok-Some-clause-tried
returns-in-Ok-Some-clause-tried g c = tried_on g.D.Disk.meaning c.args.store.now c.find_block.new.store c.fix_in.new.store c.in-Ok-Some.field-0 (store_part c.fix_in.result) c.in-Ok-Some.ensures.looked c.fix_in.ensures.tried

pub returns-in-Ok-None-clause-fixes : goal.returns-in-Ok-None-clause-fixes
returns-in-Ok-None-clause-fixes g c = λ R t i. fixed_away g.D.Disk.meaning R c.args.obj c.args.dba c.args.value c.args.store.now c.find_block.new.store c.in-Ok-None.field-0 t c.in-Ok-None.ensures.looked (subst (SegmentTold c.args.store.now.shape R c.args.obj c.args.dba) c.in-Ok-None.field-0-is (c.in-Ok-None.ensures.says R t i))

pub returns-in-Ok-None-clause-tried : goal.returns-in-Ok-None-clause-tried
returns-in-Ok-None-clause-tried g c = tried_looked g.D.Disk.meaning c.args.store.now c.find_block.new.store c.in-Ok-None.field-0 tt c.in-Ok-None.ensures.looked

pub returns-in-Err-clause-fixes : goal.returns-in-Err-clause-fixes
returns-in-Err-clause-fixes g c = λ R t i. fixed_none {A = Option Segment} g.D.Disk.meaning R c.args.obj c.args.dba c.args.value c.args.store.now c.find_block.new.store c.in-Err.fault t c.in-Err.ensures.looked (λ n. c.in-Err.ensures.sound R t i n)

pub returns-in-Err-clause-tried : goal.returns-in-Err-clause-tried
returns-in-Err-clause-tried g c = tried_none {A = Option Segment} g.D.Disk.meaning c.args.store.now c.find_block.new.store c.in-Err.fault c.in-Err.ensures.looked

pub fix_in-requires-clause-percent : goal.fix_in-requires-clause-percent
fix_in-requires-clause-percent g c = percent_told c.in-Ok-Some.field-0 c.in-Ok-Some.segment c.in-Ok-Some.field-0-is c.in-Ok-Some.ensures.percent

pub fix_in-requires-clause-unspent : goal.fix_in-requires-clause-unspent
fix_in-requires-clause-unspent g c = c.in-Ok-Some.ensures.looked.cause.kept c.in-Ok-Some.ensures.looked.cause.goes_on
