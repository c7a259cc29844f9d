use Rattle.std.proofs.Common.{arith}
use Rattle.std.proofs.lemmas.Result.{err_from_is_err_and}
use Rattle.redo_record.proofs.Decoded.{fails_in_front, rest_is_short, read_in_front}
use Rattle.redo_record.proofs.codec.first.Goals as goal

pub returns-in_err-rec : goal.returns-in_err-rec
returns-in_err-rec c =
    let p = err_from_is_err_and c.from_residual.result c.from_residual.ensures.1 in
    rw (p.1, p.2) (fails_in_front c.in_err-rec.field-0.0 c.args.bytes.now c.record.new.input (rw c.new-input.ensures at c.in_err-rec.ensures))

pub overflow_sub-len : goal.overflow_sub-len
overflow_sub-len c =
    rw c.rest.ensures (rest_is_short c.args.bytes.now c.record.new.input c.in_ok-rec.rec (λ i. omega (arith, c.type_inv.bytes i)) (rw c.new-input.ensures at c.in_ok-rec.ensures))

pub returns : goal.returns
returns c =
    rw c.rest.ensures (read_in_front c.args.bytes.now c.record.new.input c.in_ok-rec.rec (λ i. omega (arith, c.type_inv.bytes i)) (rw c.new-input.ensures at c.in_ok-rec.ensures))
