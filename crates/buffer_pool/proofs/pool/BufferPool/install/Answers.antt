use Rattle.std.proofs.Common.{List, subst}
use Rattle.buffer_pool.specs.declared.changed.NewPage.{NewPage}
use Rattle.buffer_pool.specs.Preparing.{Installed}
use Rattle.buffer_pool.proofs.Installs.{shows_installed}
use Rattle.buffer_pool.proofs.pool.BufferPool.install.Goals as goal

pub returns-clause-shows : goal.returns-clause-shows
returns-clause-shows c = λ pages image image2 s l.
    shows_installed c.args.self.now.shape pages image image2 c.args.changed c.args.self.now.held c.put_all.new.self.held (subst (λ (ns : List NewPage). Installed ns c.args.self.now.held c.put_all.new.self.held) c.changed.view_is c.put_all.ensures.installed) s l
