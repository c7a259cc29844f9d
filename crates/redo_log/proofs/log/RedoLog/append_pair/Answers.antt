use Rattle.std.proofs.Common.{◌++◌, ◌∙◌, sym, ap, arith, List, ℕ}
use Rattle.redo_record.specs.Spelling.{spelling}
use Rattle.redo_log.specs.Kept.{Kept}
use Rattle.redo_log.proofs.Adding.{two_more, pair_bytes}
use Rattle.redo_log.proofs.log.RedoLog.append_pair.Goals as goal

pub returns-clause-added : goal.returns-clause-added
returns-clause-added c groups R0 R list a b =
    let is = c.self.view_is in
    two_more groups R0 R c.args.first.now c.args.second.now c.args.self.now _ list a b (ap (λ (k : Kept). k.stable) is) (omega (arith, c.number_after-self-inside.ensures, ap (λ (k : Kept). k.count) is))
    (pair_bytes (spelling c.args.first.now) (spelling c.args.second.now) c.args.self.now.waiting.bytes _ c.clear.new.self.items c.encode.new.out.items c.encode-2.new.out.items c.deref.result.now c.add.new.self.bytes (sym (ap (λ (k : Kept). k.waiting.bytes) is)) c.clear.ensures.items c.in_ok-encode.ensures.ok c.in_ok-encode-2.ensures.ok c.deref.ensures.value c.in_ok-add.ensures.ok)
