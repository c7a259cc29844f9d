use Rattle.script_gen.proofs.Texts.{deletes_more}
use Rattle.script_gen.proofs.generating.put_deletes.Goals as goal

pub loop-before-preserved : goal.loop-before-preserved
loop-before-preserved c = deletes_more c.loop-before.before c.args.out.now.items c.loop-before.out.items c.put_delete_at.new.out.items c.loop-before.invariant c.in_ok-put_delete_at.ensures
