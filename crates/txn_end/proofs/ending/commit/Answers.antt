use Rattle.std.proofs.Common.{refl}
use Rattle.end_laws.specs.Types.{commit_of}
use Rattle.end_laws.proofs.Allowed.{commits_are_allowed}
use Rattle.txn_end.proofs.ending.commit.Goals as goal

pub returns-clause-added : goal.returns-clause-added
returns-clause-added g c = λ R t n m. c.record_commit.ensures.added R (commit_of R c.args.txn) t n refl (commits_are_allowed c.args.store.now.shape R c.args.txn t.lawful m)

pub returns-clause-number : goal.returns-clause-number
returns-clause-number g c = λ R t m. c.record_commit.ensures.number R (commit_of R c.args.txn) t refl (commits_are_allowed c.args.store.now.shape R c.args.txn t.lawful m)

pub returns-clause-sound : goal.returns-clause-sound
returns-clause-sound g c = λ R t n m. c.record_commit.ensures.sound R (commit_of R c.args.txn) t n refl (commits_are_allowed c.args.store.now.shape R c.args.txn t.lawful m)

pub returns-clause-survives : goal.returns-clause-survives
returns-clause-survives g c = λ since needed R t n m s. c.record_commit.ensures.survives since needed R (commit_of R c.args.txn) t n refl (commits_are_allowed c.args.store.now.shape R c.args.txn t.lawful m) s
