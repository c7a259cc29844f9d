use Rattle.std.proofs.Common.{◌≤◌, Ok, None, sym, subst}
use Rattle.seg_words.specs.Types.{Class as BlockClass, class_code}
use Rattle.store_core.proofs.Additions.{tried_on, tried_none}
use Rattle.space_usage.specs.Fixing.{store_part}
use Rattle.space_usage.proofs.Bitmaps.{ruled_code}
use Rattle.space_usage.proofs.Stored.{block_later, segment_later}
use Rattle.space_usage.proofs.Fixes.{fixed_on, fixed_none}
use Rattle.space_usage.proofs.fixing.keep_own.Goals as goal

pub returns-in-Ok-clause-fixes : goal.returns-in-Ok-clause-fixes
returns-in-Ok-clause-fixes g c = λ R o h is.
    let M = g.D.Disk.meaning in
    let a = c.args.store.now in
    let b = c.own_class.new.store in
    let p = c.in-Ok.ensures.looked in
    let own = c.in-Ok.ensures.says R o h is in
    fixed_on M R o c.args.dba None a b c.keep_as.new.store c.in-Ok.class c.keep_as.result h.holds p
    (c.keep_as.ensures.fixes R o None (block_later M a b R o c.args.dba (Ok c.in-Ok.class) p h) (segment_later M a b R o c.args.segment.now p.loan is) (subst (λ (x : BlockClass). 1 ≤ class_code x) (sym own) (ruled_code R o c.args.dba)) own)

pub returns-in-Ok-clause-tried : goal.returns-in-Ok-clause-tried
returns-in-Ok-clause-tried g c = tried_on g.D.Disk.meaning c.args.store.now c.own_class.new.store c.keep_as.new.store c.in-Ok.class (store_part c.keep_as.result) c.in-Ok.ensures.looked c.keep_as.ensures.tried

pub returns-in-Err-clause-fixes : goal.returns-in-Err-clause-fixes
returns-in-Err-clause-fixes g c = λ R o h is. fixed_none {A = BlockClass} g.D.Disk.meaning R o c.args.dba None c.args.store.now c.own_class.new.store c.in-Err.fault h.holds c.in-Err.ensures.looked (λ n. c.in-Err.ensures.sound R o h is n)

pub returns-in-Err-clause-tried : goal.returns-in-Err-clause-tried
returns-in-Err-clause-tried g c = tried_none {A = BlockClass} g.D.Disk.meaning c.args.store.now c.own_class.new.store c.in-Err.fault c.in-Err.ensures.looked
