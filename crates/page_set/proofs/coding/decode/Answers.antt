use Rattle.page_set.proofs.ReadAgain.{only}
use Rattle.page_set.proofs.coding.decode.Goals as goal

pub returns-clause-only : goal.returns-clause-only
returns-clause-only c = only c.args.dba c.args.bytes.now c.read_at.result c.read_at.ensures c.told-bytes
