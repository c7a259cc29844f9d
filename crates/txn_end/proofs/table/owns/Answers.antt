use Rattle.std.proofs.Common.{ℕ, Option, Some, None, Ok, ap, ◌∙◌, subst}
use Rattle.store_core.specs.Causes.{HasLooked}
use Rattle.page_set.specs.Folded.{page_of}
use Rattle.txn_end.specs.Reading.{header_in}
use Rattle.store_core.proofs.Lookups.{looked_on}
use Rattle.txn_end.proofs.Given.{catalogue_there}
use Rattle.txn_end.proofs.Gathering.{can_be_asked, owns_none, owns_says, owns_sound}
use Rattle.txn_end.proofs.table.owns.Goals as goal

pub returns-in-Err-clause-sound : goal.returns-in-Err-clause-sound
returns-in-Err-clause-sound g c = λ R t n. (let k = can_be_asked c.args.store.now.shape R c.args.obj t.list.within t.lawful in c.in-Err.ensures.sound R k.answer t n (catalogue_there c.args.store.now.shape t.list.within) k.is)

pub returns-in-Ok-None-clause-says : goal.returns-in-Ok-None-clause-says
returns-in-Ok-None-clause-says g c = λ R t. owns_none c.args.store.now.shape R c.args.obj c.args.extent t.list.within t.lawful (c.in-Ok-None.ensures.says R t ∙ ap (λ (o : Option ℕ). Some o) c.in-Ok-None.field-0-is)

pub returns-in-Ok-Some-clause-looked : goal.returns-in-Ok-Some-clause-looked
returns-in-Ok-Some-clause-looked g c = looked_on g.D.Disk.meaning c.args.store.now c.ask.new.store c.ask-in-Ok-Some.new.store _ c.ask-in-Ok-Some.result c.in-Ok-Some.ensures.looked c.ask-in-Ok-Some.ensures.looked

pub returns-in-Ok-Some-clause-says : goal.returns-in-Ok-Some-clause-says
returns-in-Ok-Some-clause-says g c = λ R t. owns_says g.D.Disk.meaning c.args.store.now c.ask.new.store c.args.obj c.in-Ok-Some.header c.args.extent c.ask-in-Ok-Some.result R t (subst (λ (o : Option ℕ). HasLooked g.D.Disk.meaning c.args.store.now c.ask.new.store (Ok o)) c.in-Ok-Some.field-0-is c.in-Ok-Some.ensures.looked) (c.in-Ok-Some.ensures.says R t ∙ ap (λ (o : Option ℕ). Some o) c.in-Ok-Some.field-0-is) (λ Q q. c.ask-in-Ok-Some.ensures.says Q q)

pub returns-in-Ok-Some-clause-sound : goal.returns-in-Ok-Some-clause-sound
returns-in-Ok-Some-clause-sound g c = λ R t n. owns_sound g.D.Disk.meaning c.args.store.now c.ask.new.store c.args.obj c.in-Ok-Some.header c.args.extent c.ask-in-Ok-Some.result R t n (subst (λ (o : Option ℕ). HasLooked g.D.Disk.meaning c.args.store.now c.ask.new.store (Ok o)) c.in-Ok-Some.field-0-is c.in-Ok-Some.ensures.looked) (c.in-Ok-Some.ensures.says R t ∙ ap (λ (o : Option ℕ). Some o) c.in-Ok-Some.field-0-is) (λ Q y q k h e. c.ask-in-Ok-Some.ensures.sound Q y q k h e)
