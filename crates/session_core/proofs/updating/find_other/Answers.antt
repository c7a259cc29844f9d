use Rattle.std.specs.Prelude.{◌≡◌, Some, IfOk, IfErr}
use Rattle.std.proofs.Common.{subst}
use Rattle.mark_laws.specs.Searches.{Sought, find_of}
use Rattle.free_search.specs.Answers.{IsRefusedBy}
use Rattle.session_core.proofs.Updates.{sought_other}
use Rattle.session_core.proofs.updating.find_other.Goals as goal

pub returns-clause-found : goal.returns-clause-found
returns-clause-found g c = λ R t i.
    subst (λ (q : Sought). IfOk c.find.result (λ f. find_of c.args.store.now.shape R q c.args.hint ≡ Some f)) (sought_other c.args.obj.now c.args.len _ _ c.args.own.now c.args.place.now.head c.args.place.now.at c.taker_of-taker.ensures c.own_blocks-but.ensures) (c.find.ensures.found R t i)

pub returns-clause-refused : goal.returns-clause-refused
returns-clause-refused g c = λ R t i.
    subst (λ (q : Sought). IfErr c.find.result (IsRefusedBy c.args.store.now.shape R q)) (sought_other c.args.obj.now c.args.len _ _ c.args.own.now c.args.place.now.head c.args.place.now.at c.taker_of-taker.ensures c.own_blocks-but.ensures) (c.find.ensures.refused R t i)
