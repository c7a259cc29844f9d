use Rattle.pool_store.proofs.store.Store.record.Goals as goal

pub returns-clause-adds : goal.returns-clause-adds
returns-clause-adds g c = λ R t lawful. record {
  added = c.take.ensures.added_true R t lawful;
  refused = c.take.ensures.refused_true R t;
  sound = c.take.ensures.sound R t lawful;
  stable = c.take.ensures.stable R t.list;
  survives = λ since needed s. c.take.ensures.survives since needed R t s;
  survives_refused = λ since needed s. c.take.ensures.survives_refused since needed R t s;
}

pub returns-clause-tried : goal.returns-clause-tried
returns-clause-tried g c = record {
  refused = c.take.ensures.refused_true;
  survives_refused = c.take.ensures.survives_refused;
  stable = c.take.ensures.stable;
  loan = c.take.ensures.loan;
  cause = c.take.ensures.cause;
}
