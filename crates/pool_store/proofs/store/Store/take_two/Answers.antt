use Rattle.pool_store.proofs.store.Store.take_two.Goals as goal

pub returns-clause-added : goal.returns-clause-added
returns-clause-added g c = λ R h a b. c.put_both.ensures.taken.added R h ((tt, a), b)

pub returns-clause-number : goal.returns-clause-number
returns-clause-number g c = λ R h a b. c.put_both.ensures.taken.number R h ((tt, a), b)

pub returns-clause-true_number : goal.returns-clause-true_number
returns-clause-true_number g c = c.put_both.ensures.taken.true_number

pub returns-clause-refused : goal.returns-clause-refused
returns-clause-refused g c = c.put_both.ensures.taken.refused

pub returns-clause-added_true : goal.returns-clause-added_true
returns-clause-added_true g c = c.put_both.ensures.taken.added_true

pub returns-clause-refused_true : goal.returns-clause-refused_true
returns-clause-refused_true g c = c.put_both.ensures.taken.refused_true

pub returns-clause-survives : goal.returns-clause-survives
returns-clause-survives g c = c.put_both.ensures.taken.survives

pub returns-clause-survives_refused : goal.returns-clause-survives_refused
returns-clause-survives_refused g c = c.put_both.ensures.taken.survives_refused

pub returns-clause-stable : goal.returns-clause-stable
returns-clause-stable g c = c.put_both.ensures.taken.stable

pub returns-clause-loan : goal.returns-clause-loan
returns-clause-loan g c = c.put_both.ensures.taken.loan

pub returns-clause-cause : goal.returns-clause-cause
returns-clause-cause g c = c.put_both.ensures.taken.cause
