use Rattle.std.proofs.Common.{◌++◌, ◌∙◌, sym, ap, arith, List, ℕ}
use Rattle.redo_record.specs.declared.record.Record.{Record}
use Rattle.redo_record.specs.declared.record.Record.TheVariants.{Commit}
use Rattle.redo_log.specs.Kept.{Kept}
use Rattle.redo_log.proofs.Adding.{one_more}
use Rattle.redo_log.proofs.log.RedoLog.append_commit.Goals as goal

pub returns-clause-added : goal.returns-clause-added
returns-clause-added c groups R0 R list =
    let is = c.self.view_is in
    let bytes = ap (λ (k : Kept). k.waiting.bytes) is in
    let r : Record = Commit (record { txn = c.args.txn; number = c.args.number; entry = c.args.entry }) in
    one_more groups R0 R r c.args.self.now _ list c.commit_bytes-bytes.ensures.spells (ap (λ (k : Kept). k.stable) is) (omega (arith, c.number_after-self-inside.ensures, ap (λ (k : Kept). k.count) is))
    (c.add_within.ensures ∙ ap (λ (l : List ℕ). l ++ c.commit_bytes-bytes.result) bytes ∙ ap (λ (l : List ℕ). c.args.self.now.waiting.bytes ++ l) c.commit_bytes-bytes.ensures.bytes)
