use Rattle.std.proofs.Common.{ℕ, ap}
use Rattle.shrink_laws.specs.declared.skip.Skip.{Skip}
use Rattle.shrink_move.proofs.shrink.skip_of.Goals as goal

abbrev skip_with : ℕ → ℕ → ℕ → ℕ → Skip
skip_with b k t n = record { block = b; slot = k; txn = t; records = n }

pub returns : goal.returns
returns g c = λ R h. ap (λ (n : ℕ). skip_with c.args.at.now.dba c.args.at.now.slot c.args.txn.now n) (c.log_len.ensures.list R h)
