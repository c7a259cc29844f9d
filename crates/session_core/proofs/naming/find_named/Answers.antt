use Rattle.store_read.proofs.Truth.{catalogue_has}
use Rattle.session_core.proofs.Lookup.{named_says, named_given}
use Rattle.session_core.proofs.naming.find_named.Goals as goal

pub returns-in-Ok-clause-says : goal.returns-in-Ok-clause-says
returns-in-Ok-clause-says g c = λ R t. named_says c.args.store.now.shape R c.args.name.now c.in-Ok.named t.list.within t.lawful (c.in-Ok.ensures.says R t)

pub returns-in-Err-clause-sound : goal.returns-in-Err-clause-sound
returns-in-Err-clause-sound g c = λ R t n.
    let y = named_given c.args.store.now.shape R c.args.name.now t.list.within t.lawful in
    c.in-Err.ensures.sound R y.named t n (catalogue_has c.args.store.now.shape t.list.within) y.is
