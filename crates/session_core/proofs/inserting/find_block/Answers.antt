use Rattle.std.specs.Prelude.{◌≡◌, Some, IfOk, IfErr}
use Rattle.std.proofs.Common.{subst}
use Rattle.mark_laws.specs.Searches.{Sought, find_of}
use Rattle.free_search.specs.Answers.{IsRefusedBy}
use Rattle.session_core.proofs.NewRows.{sought_is}
use Rattle.session_core.proofs.inserting.find_block.Goals as goal

pub returns-clause-found : goal.returns-clause-found
returns-clause-found g c = λ R t i.
    subst (λ (q : Sought). IfOk c.find.result (λ f. find_of c.args.store.now.shape R q c.args.hint ≡ Some f)) (sought_is c.args.obj.now _ _ c.args.bytes.now c.args.own.now c.length_of-len.ensures c.taker_of-taker.ensures) (c.find.ensures.found R t i)

pub returns-clause-refused : goal.returns-clause-refused
returns-clause-refused g c = λ R t i.
    subst (λ (q : Sought). IfErr c.find.result (IsRefusedBy c.args.store.now.shape R q)) (sought_is c.args.obj.now _ _ c.args.bytes.now c.args.own.now c.length_of-len.ensures c.taker_of-taker.ensures) (c.find.ensures.refused R t i)
