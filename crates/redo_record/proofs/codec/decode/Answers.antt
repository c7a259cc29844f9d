use Rattle.std.proofs.Common.{◌+◌}
use Rattle.redo_record.proofs.Decoded.{stands_at, stands_once}
use Rattle.redo_record.proofs.codec.decode.Goals as goal

pub returns-in-Ok-clause-only : goal.returns-in-Ok-clause-only
returns-in-Ok-clause-only c = λ rec next stands.
    stands_once c.args.bytes.now c.args.at (c.args.at + c.in-Ok.len) next c.in-Ok.rec rec
    (stands_at c.args.bytes.now c.split_at.result.1.now c.args.at c.in-Ok.len c.in-Ok.rec c.split_at.ensures.back c.in-Ok.ensures) stands
