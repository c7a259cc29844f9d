use Rattle.session_core.proofs.Noted.{err_so, on_err, one_kept, two_kept}
use Rattle.session_core.proofs.dues.Dues.note_blocks.Goals as goal

pub returns-in_err-note_block-2-clause-err : goal.returns-in_err-note_block-2-clause-err
returns-in_err-note_block-2-clause-err c = on_err c.from_residual-in_err-note_block-2.result _ (one_kept c.args.changed.now.obj c.args.self.now c.note_block.new.self c.note_block-2.new.self c.args.changed.now.first c.in_ok-note_block.ensures.ok c.in_err-note_block-2.ensures.err)

pub returns-clause-err : goal.returns-clause-err
returns-clause-err c = err_so c.note_block-3.result _ _ (two_kept c.args.changed.now.obj c.args.self.now c.note_block.new.self c.note_block-2.new.self c.note_block-3.new.self c.args.changed.now.first c.args.changed.now.second c.in_ok-note_block.ensures.ok c.in_ok-note_block-2.ensures.ok) c.note_block-3.ensures.err
