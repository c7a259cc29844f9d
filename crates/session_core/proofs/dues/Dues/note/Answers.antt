use Rattle.session_core.proofs.Noted.{err_so, three_kept}
use Rattle.session_core.proofs.dues.Dues.note.Goals as goal

pub returns-clause-err : goal.returns-clause-err
returns-clause-err c = err_so c.owe_noted.result _ _ (three_kept c.args.self.now c.note_blocks.new.self c.owe_noted.new.self c.args.changed.now c.in_ok-note_blocks.ensures.ok) c.owe_noted.ensures.err
