use Rattle.buffer_pool.proofs.pool.BufferPool.prepare.Goals as goal

pub returns-in-None-clause-leads : goal.returns-in-None-clause-leads
returns-in-None-clause-leads g c = rw c.in-None.is c.prepare_one.ensures.leads

pub returns-in-None-clause-answers : goal.returns-in-None-clause-answers
returns-in-None-clause-answers g c = rw c.in-None.is c.prepare_one.ensures.answers

pub returns-in-Some-clause-applies : goal.returns-in-Some-clause-applies
returns-in-Some-clause-applies g c = rw c.in-Some.is c.prepare_two.ensures.applies

pub returns-in-Some-clause-leads : goal.returns-in-Some-clause-leads
returns-in-Some-clause-leads g c = rw c.in-Some.is c.prepare_two.ensures.leads

pub returns-in-Some-clause-answers : goal.returns-in-Some-clause-answers
returns-in-Some-clause-answers g c = rw c.in-Some.is c.prepare_two.ensures.answers

pub returns-in-None-clause-made : goal.returns-in-None-clause-made
returns-in-None-clause-made g c = λ none. c.prepare_one.ensures.made

pub returns-in-None-clause-names : goal.returns-in-None-clause-names
returns-in-None-clause-names g c = rw c.in-None.is c.prepare_one.ensures.names

pub returns-in-Some-clause-made : goal.returns-in-Some-clause-made
returns-in-Some-clause-made g c = rw c.in-Some.is (λ none. cc)

pub returns-in-Some-clause-names : goal.returns-in-Some-clause-names
returns-in-Some-clause-names g c = rw c.in-Some.is c.prepare_two.ensures.names
