use Rattle.pool_store.proofs.store.Store.record_two.Goals as goal

pub returns-clause-adds : goal.returns-clause-adds
returns-clause-adds g c = λ R t lawful calls. record {
  added = c.take_two.ensures.added_true R t lawful;
  refused = c.take_two.ensures.refused_true R t;
  sound = c.take_two.ensures.sound R t lawful calls;
  stable = c.take_two.ensures.stable R t.list;
  survives = λ since needed s. c.take_two.ensures.survives since needed R t s;
  survives_refused = λ since needed s. c.take_two.ensures.survives_refused since needed R t s;
}

pub returns-clause-tried : goal.returns-clause-tried
returns-clause-tried g c = record {
  refused = c.take_two.ensures.refused_true;
  survives_refused = c.take_two.ensures.survives_refused;
  stable = c.take_two.ensures.stable;
  loan = c.take_two.ensures.loan;
  cause = c.take_two.ensures.cause;
}
