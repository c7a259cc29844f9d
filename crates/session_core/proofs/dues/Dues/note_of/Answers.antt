use Rattle.session_core.proofs.Noted.{err_so, second_failed}
use Rattle.session_core.proofs.dues.Dues.note_of.Goals as goal

pub returns-clause-err : goal.returns-clause-err
returns-clause-err c = err_so c.push-2.result _ _ (second_failed c.args.self.now.owed c.args.self.now.noted c.push.new.self c.push-2.new.self c.args.dba c.args.obj c.in_ok-push.ensures.ok) c.push-2.ensures.err
