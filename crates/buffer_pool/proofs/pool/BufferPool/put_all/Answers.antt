use Rattle.std.proofs.Common.{List, subst, ◌∙◌}
use Rattle.buffer_pool.specs.declared.changed.NewPage.{NewPage}
use Rattle.buffer_pool.proofs.Installs.{Progress, further}
use Rattle.buffer_pool.proofs.pool.BufferPool.put_all.Goals as goal

pub loop-new-preserved : goal.loop-new-preserved
loop-new-preserved c = record {
  progress = further c.args.pages.items c.in-Some.new c.next.new.self.rest.items c.args.self.now.held c.loop-new.self.held c.put_new.new.self.held
      (subst (λ (ns : List NewPage). Progress c.args.pages.items ns c.args.self.now.held c.loop-new.self.held) c.in-Some.ensures.steps.0 c.loop-new.invariant.progress) c.put_new.ensures.installed;
  shape = c.put_new.ensures.shape ∙ c.loop-new.invariant.shape;
}
