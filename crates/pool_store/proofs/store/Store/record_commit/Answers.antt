use Rattle.std.proofs.Common.{rules, ◌≡◌, None}
use Rattle.pool_store.proofs.store.Store.record_commit.Goals as goal

pub returns-clause-added : goal.returns-clause-added
returns-clause-added g c = λ R k true unspent txn lawful. c.add_commit.ensures.added R k true unspent txn lawful (c.have_number.ensures R true.list unspent)

pub returns-clause-number : goal.returns-clause-number
returns-clause-number g c = λ R k true txn lawful.
    let unspent : c.args.self.now.fault ≡ None = search rules in
    c.add_commit.ensures.number R k true txn lawful (c.have_number.ensures R true.list unspent)

pub returns-clause-all_stable : goal.returns-clause-all_stable
returns-clause-all_stable g c = λ R true.
    let unspent : c.args.self.now.fault ≡ None = search rules in
    c.add_commit.ensures.all_stable R true (c.have_number.ensures R true.list unspent)

pub returns-clause-sound : goal.returns-clause-sound
returns-clause-sound g c = λ R k true unspent txn lawful. c.add_commit.ensures.sound R k true unspent txn lawful (c.have_number.ensures R true.list unspent)

pub returns-clause-survives : goal.returns-clause-survives
returns-clause-survives g c = λ since needed R k true unspent txn lawful. c.add_commit.ensures.survives since needed R k true unspent txn lawful (c.have_number.ensures R true.list unspent)
