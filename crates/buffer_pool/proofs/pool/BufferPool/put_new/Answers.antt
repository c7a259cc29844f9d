use Rattle.std.proofs.Common.{ℕ, IsSome, [], ◌∷◌, subst, sym}
use Rattle.buffer_pool.specs.Frames.{frame_at}
use Rattle.buffer_pool.specs.Preparing.{Installed}
use Rattle.buffer_pool.proofs.pool.BufferPool.put_new.Goals as goal

pub put_in-requires : goal.put_in-requires
put_in-requires c = subst (λ (j : ℕ). IsSome (frame_at c.args.self.now.held j)) (sym c.dba.view_is) c.requires

pub returns-clause-installed : goal.returns-clause-installed
returns-clause-installed c = subst (λ (j : ℕ). Installed (record { dba = j; page = c.args.new.page } ∷ []) c.args.self.now.held c.put_in.new.self.held) c.dba.view_is c.put_in.ensures.installed
