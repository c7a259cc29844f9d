use Rattle.std.proofs.Common.{◌≡◌, ◌≤◌, ℕ, Bool, Ok, Err, List, IfOk, sym, subst}
use Rattle.seg_words.specs.Types.{Class as BlockClass, class_code}
use Rattle.redo_model.specs.Records.{Record}
use Rattle.usage_laws.specs.Types.{ruled_class, with_class}
use Rattle.store_core.specs.Adding.{Adds}
use Rattle.store_core.proofs.Lookups.{looked_on}
use Rattle.store_core.proofs.Additions.{adds_on, adds_none, tried_on, tried_none}
use Rattle.space_usage.specs.Keeping.{is_other}
use Rattle.space_usage.proofs.Bitmaps.{class_read, class_told, kept_at, rows_have, ruled_code}
use Rattle.space_usage.proofs.Stored.{block_later, segment_later}
use Rattle.space_usage.proofs.keeping.keep_class_of.Goals as goal

pub returns-in-Err-clause-keeps : goal.returns-in-Err-clause-keeps
returns-in-Err-clause-keeps g c = λ R h k. adds_none g.D.Disk.meaning c.args.store.now c.read_segment.new.store c.in-Err.fault R (with_class c.args.store.now.shape R c.args.obj c.args.dba) h.holds c.in-Err.ensures.looked (λ n. c.in-Err.ensures.sound R h.holds h.table n)

pub returns-in-Err-clause-tried : goal.returns-in-Err-clause-tried
returns-in-Err-clause-tried g c = tried_none g.D.Disk.meaning c.args.store.now c.read_segment.new.store c.in-Err.fault c.in-Err.ensures.looked

pub returns-in-Ok-ask-clause-keeps : goal.returns-in-Ok-ask-clause-keeps
returns-in-Ok-ask-clause-keeps g c = λ R h k.
    let M = g.D.Disk.meaning in
    let a = c.args.store.now in
    let b = c.read_segment.new.store in
    let s = c.ask.new.store in
    let o : ℕ = c.args.obj in
    let d : ℕ = c.args.dba in
    let first = c.in-Ok.ensures.looked in
    let both = looked_on M a b s c.in-Ok.segment (Ok c.in-Ok-ask.class) first c.in-Ok-ask.ensures.looked in
    let is = c.in-Ok.ensures.says R h.holds h.table in
    let read = block_later M a b R o d (Ok c.in-Ok.segment) first h in
    let class = class_told b.shape R o d c.in-Ok.segment.pctfree c.args.table.now c.in-Ok-ask.class read.holds.list.within read.holds.lawful read.here k is.pctfree c.in-Ok.ensures.percent (c.in-Ok-ask.ensures.says R read.holds) in
    subst (λ (Q : List Record). Adds {T = Bool} M R Q a c.keep.new.store c.keep.result) (kept_at a.shape s.shape R o d c.in-Ok-ask.class (ruled_class R o d) both.loan.shape class)
    (adds_on M a s c.keep.new.store c.in-Ok-ask.class c.keep.result R _ h.holds both
    (c.keep.ensures.keeps R o (block_later M a s R o d (Ok c.in-Ok-ask.class) both h) (segment_later M a s R o c.in-Ok.segment both.loan is) (subst (λ (x : BlockClass). 1 ≤ class_code x) (sym class) (ruled_code R o d))))

pub returns-in-Ok-ask-clause-changed : goal.returns-in-Ok-ask-clause-changed
returns-in-Ok-ask-clause-changed g c = λ R h k.
    let M = g.D.Disk.meaning in
    let a = c.args.store.now in
    let b = c.read_segment.new.store in
    let s = c.ask.new.store in
    let o : ℕ = c.args.obj in
    let d : ℕ = c.args.dba in
    let first = c.in-Ok.ensures.looked in
    let both = looked_on M a b s c.in-Ok.segment (Ok c.in-Ok-ask.class) first c.in-Ok-ask.ensures.looked in
    let is = c.in-Ok.ensures.says R h.holds h.table in
    let read = block_later M a b R o d (Ok c.in-Ok.segment) first h in
    let class = class_told b.shape R o d c.in-Ok.segment.pctfree c.args.table.now c.in-Ok-ask.class read.holds.list.within read.holds.lawful read.here k is.pctfree c.in-Ok.ensures.percent (c.in-Ok-ask.ensures.says R read.holds) in
    subst (λ (x : BlockClass). IfOk c.keep.result (λ y. y ≡ is_other R d x)) class (c.keep.ensures.changed R o (block_later M a s R o d (Ok c.in-Ok-ask.class) both h) (segment_later M a s R o c.in-Ok.segment both.loan is))

pub returns-in-Ok-ask-clause-tried : goal.returns-in-Ok-ask-clause-tried
returns-in-Ok-ask-clause-tried g c =
    let M = g.D.Disk.meaning in
    let both = looked_on M c.args.store.now c.read_segment.new.store c.ask.new.store c.in-Ok.segment (Ok c.in-Ok-ask.class) c.in-Ok.ensures.looked c.in-Ok-ask.ensures.looked in
    tried_on M c.args.store.now c.ask.new.store c.keep.new.store c.in-Ok-ask.class c.keep.result both c.keep.ensures.tried

pub returns-in-Err-ask-clause-keeps : goal.returns-in-Err-ask-clause-keeps
returns-in-Err-ask-clause-keeps g c = λ R h k.
    let M = g.D.Disk.meaning in
    let a = c.args.store.now in
    let b = c.read_segment.new.store in
    let s = c.ask.new.store in
    let o : ℕ = c.args.obj in
    let d : ℕ = c.args.dba in
    let first = c.in-Ok.ensures.looked in
    let both = looked_on {T = BlockClass} M a b s c.in-Ok.segment (Err c.in-Err-ask.fault) first c.in-Err-ask.ensures.looked in
    let is = c.in-Ok.ensures.says R h.holds h.table in
    let read = block_later M a b R o d (Ok c.in-Ok.segment) first h in
    adds_none M a s c.in-Err-ask.fault R (with_class a.shape R o d) h.holds both
    (λ n. c.in-Err-ask.ensures.sound R (ruled_class R o d) read.holds (first.cause.kept n) (rows_have b.shape R o d read.holds.list.within read.holds.lawful read.table read.here) (class_read b.shape R o d c.in-Ok.segment.pctfree c.args.table.now read.holds.list.within read.holds.lawful read.here k is.pctfree c.in-Ok.ensures.percent))

pub returns-in-Err-ask-clause-tried : goal.returns-in-Err-ask-clause-tried
returns-in-Err-ask-clause-tried g c =
    let M = g.D.Disk.meaning in
    let both = looked_on {T = BlockClass} M c.args.store.now c.read_segment.new.store c.ask.new.store c.in-Ok.segment (Err c.in-Err-ask.fault) c.in-Ok.ensures.looked c.in-Err-ask.ensures.looked in
    tried_none M c.args.store.now c.ask.new.store c.in-Err-ask.fault both
