use Rattle.std.proofs.Common.{◌+◌, ◌-◌, length, arith, refl}
use Rattle.page_bytes.proofs.Fronts.{added}
use Rattle.page_bytes.proofs.front.add.Goals as goal

pub returns-clause-bytes : goal.returns-clause-bytes
returns-clause-bytes c = λ front f. rw c.copy_from_slice.ensures.after (added c.args.page.now _ front c.args.bytes.now c.args.at (c.args.at + length c.args.bytes.now) (c.args.at + length c.args.bytes.now - c.args.at) refl (omega arith) refl f)
