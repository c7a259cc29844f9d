use Rattle.std.proofs.Common.{arith}
use Rattle.version_laws.specs.Types.{ended_by}
use Rattle.usage_laws.specs.Types.{stated_by}
use Rattle.space_usage.proofs.Naming.{few_named}
use Rattle.space_usage.proofs.named.few_named.Goals as goal

pub returns : goal.returns
returns c =
    let k = few_named (ended_by c.args.table.now) (stated_by c.args.table.now) c.args.block.now.block in
    let s = c.slots-slots.ensures.count in
    let t = c.slots-slots.ensures.most in
    let e = c.entries-entries.ensures.count in
    let u = c.entries-entries.ensures.range.1 in
    omega (arith, k, s, t, e, u)
