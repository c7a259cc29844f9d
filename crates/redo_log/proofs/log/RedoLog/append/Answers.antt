use Rattle.std.proofs.Common.{◌++◌, ◌∙◌, sym, ap, arith, List, ℕ}
use Rattle.redo_record.specs.Spelling.{spelling}
use Rattle.redo_log.specs.Kept.{Kept}
use Rattle.redo_log.proofs.Adding.{one_more, one_bytes}
use Rattle.redo_log.proofs.log.RedoLog.append.Goals as goal

pub returns-clause-added : goal.returns-clause-added
returns-clause-added c groups R0 R list a =
    let is = c.self.view_is in
    one_more groups R0 R c.args.rec.now c.args.self.now _ list a (ap (λ (k : Kept). k.stable) is) (omega (arith, c.number_after-self-inside.ensures, ap (λ (k : Kept). k.count) is))
    (one_bytes (spelling c.args.rec.now) c.args.self.now.waiting.bytes _ c.clear.new.self.items c.encode.new.out.items c.deref.result.now c.add.new.self.bytes (sym (ap (λ (k : Kept). k.waiting.bytes) is)) c.clear.ensures.items c.in_ok-encode.ensures.ok c.deref.ensures.value c.in_ok-add.ensures.ok)
