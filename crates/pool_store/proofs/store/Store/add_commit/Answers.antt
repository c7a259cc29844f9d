use Rattle.std.proofs.Common.{rules, ◌≡◌, ◌∙◌, ◌∷◌, sym, subst}
use Rattle.std.specs.Prelude.{IfOk}
use Rattle.redo_model.specs.Records.{Commit, CommitRecord}
use Rattle.redo_model.specs.Model.{IsLawful}
use Rattle.pool_store.specs.Store.{IsTrue}
use Rattle.pool_store.specs.Survives.{Survives}
use Rattle.pool_store.proofs.Committing.{told_entry, told_commit}
use Rattle.pool_store.proofs.store.Store.add_commit.Goals as goal

pub returns-in-Some-clause-added : goal.returns-in-Some-clause-added
returns-in-Some-clause-added g c = λ R x h unspent by lawful small.
    let e = told_commit g.D.Disk.meaning R x c.args.self.now c.self.inside.commits c.args.txn c.next_number-number.result c.in-Some.entry (search rules) h lawful small by (sym c.in-Some.is ∙ told_entry g.D.Disk.meaning R x c.args.txn c.args.self.now c.self.inside.pages c.entry_in.result (search rules) (search rules) by h lawful c.entry_in.ensures) c.next_number-number.ensures in
    subst (λ (y : CommitRecord). IsTrue g.D.Disk.meaning (Commit y ∷ R) c.commit.new.self) (sym e) (c.commit.ensures.added R h (subst (λ (y : CommitRecord). IsLawful c.args.self.now.shape (Commit y ∷ R)) e lawful) small)

pub returns-in-Some-clause-number : goal.returns-in-Some-clause-number
returns-in-Some-clause-number g c = λ R x h by lawful small.
    let e = told_commit g.D.Disk.meaning R x c.args.self.now c.self.inside.commits c.args.txn c.next_number-number.result c.in-Some.entry (search rules) h lawful small by (sym c.in-Some.is ∙ told_entry g.D.Disk.meaning R x c.args.txn c.args.self.now c.self.inside.pages c.entry_in.result (search rules) (search rules) by h lawful c.entry_in.ensures) c.next_number-number.ensures in
    subst (λ (y : CommitRecord). IfOk c.commit.result (λ n. n ≡ y.number)) (sym e) c.commit.ensures.number

pub returns-in-Some-clause-sound : goal.returns-in-Some-clause-sound
returns-in-Some-clause-sound g c = λ R x h unspent by lawful small.
    let e = told_commit g.D.Disk.meaning R x c.args.self.now c.self.inside.commits c.args.txn c.next_number-number.result c.in-Some.entry (search rules) h lawful small by (sym c.in-Some.is ∙ told_entry g.D.Disk.meaning R x c.args.txn c.args.self.now c.self.inside.pages c.entry_in.result (search rules) (search rules) by h lawful c.entry_in.ensures) c.next_number-number.ensures in
    c.commit.ensures.sound R h (subst (λ (y : CommitRecord). IsLawful c.args.self.now.shape (Commit y ∷ R)) e lawful) small

pub returns-in-Some-clause-survives : goal.returns-in-Some-clause-survives
returns-in-Some-clause-survives g c = λ since needed R x h unspent by lawful small left.
    let e = told_commit g.D.Disk.meaning R x c.args.self.now c.self.inside.commits c.args.txn c.next_number-number.result c.in-Some.entry (search rules) h lawful small by (sym c.in-Some.is ∙ told_entry g.D.Disk.meaning R x c.args.txn c.args.self.now c.self.inside.pages c.entry_in.result (search rules) (search rules) by h lawful c.entry_in.ensures) c.next_number-number.ensures in
    subst (λ (y : CommitRecord). Survives g.D.Disk.meaning since needed (Commit y ∷ R) c.commit.new.self) (sym e) (c.commit.ensures.survives since needed R h (subst (λ (y : CommitRecord). IsLawful c.args.self.now.shape (Commit y ∷ R)) e lawful) small left)

pub returns-in-None-clause-added : goal.returns-in-None-clause-added
returns-in-None-clause-added g c = λ R x h unspent by lawful small. absurd (cc (c.in-None.is, told_entry g.D.Disk.meaning R x c.args.txn c.args.self.now c.self.inside.pages c.entry_in.result (search rules) (search rules) by h lawful c.entry_in.ensures))

pub returns-in-None-clause-sound : goal.returns-in-None-clause-sound
returns-in-None-clause-sound g c = λ R x h unspent by lawful small. absurd (cc (c.in-None.is, told_entry g.D.Disk.meaning R x c.args.txn c.args.self.now c.self.inside.pages c.entry_in.result (search rules) (search rules) by h lawful c.entry_in.ensures))

pub returns-in-None-clause-survives : goal.returns-in-None-clause-survives
returns-in-None-clause-survives g c = λ since needed R x h unspent by lawful small left. absurd (cc (c.in-None.is, told_entry g.D.Disk.meaning R x c.args.txn c.args.self.now c.self.inside.pages c.entry_in.result (search rules) (search rules) by h lawful c.entry_in.ensures))
