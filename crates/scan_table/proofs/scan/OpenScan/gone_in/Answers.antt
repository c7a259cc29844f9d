use Rattle.std.proofs.Common.{ℕ, List, length, ap, arith}
use Rattle.scan_table.proofs.Lowering.{none_gone}
use Rattle.scan_table.proofs.scan.OpenScan.gone_in.Goals as goal

pub returns-then-self-blocks : goal.returns-then-self-blocks
returns-then-self-blocks c = none_gone c.args.self.now.shape c.args.self.now.blocks c.args.self.now.read c.args.gone.now.number c.args.gone.now.released (let l = c.if-self-blocks.true in let e = ap (λ (xs : List ℕ). length xs) c.as_slice-blocks.ensures in omega (arith, l, e))
