use Rattle.std.proofs.Common.{length, sym, subst}
use Rattle.std.specs.Prelude.{IfOk}
use Rattle.change_laws.specs.Types.{by_change}
use Rattle.row_change.specs.Deciding.{DecisionMeans}
use Rattle.row_change.specs.Fitting.{told_way}
use Rattle.row_change.specs.Updating.{MayChange, change_now}
use Rattle.row_change.specs.declared.fitting.Way.{Way}
use Rattle.row_change.proofs.updating.decide_by_way.Goals as goal

pub returns-in-InPlace-clause-says : goal.returns-in-InPlace-clause-says
returns-in-InPlace-clause-says g c = λ R who own t m a i can. subst (λ (w : Way). IfOk c.decide_in_place.result (DecisionMeans c.args.store.now.shape R who own (by_change c.args.store.now.shape R (length c.args.u.now.bytes.now) (change_now R c.args.u.now (told_way w))))) (sym c.in-InPlace.is) (c.decide_in_place.ensures.says R who own t m a i (subst (λ (w : Way). MayChange c.args.store.now.shape R own c.args.u.now (told_way w)) c.in-InPlace.is can))

pub returns-in-ToHead-clause-says : goal.returns-in-ToHead-clause-says
returns-in-ToHead-clause-says g c = λ R who own t m a i can. subst (λ (w : Way). IfOk c.decide_to_head.result (DecisionMeans c.args.store.now.shape R who own (by_change c.args.store.now.shape R (length c.args.u.now.bytes.now) (change_now R c.args.u.now (told_way w))))) (sym c.in-ToHead.is) (c.decide_to_head.ensures.says R who own t m a i (subst (λ (w : Way). MayChange c.args.store.now.shape R own c.args.u.now (told_way w)) c.in-ToHead.is can))

pub returns-in-ToOther-clause-says : goal.returns-in-ToOther-clause-says
returns-in-ToOther-clause-says g c = λ R who own t m a i can. subst (λ (w : Way). IfOk c.decide_to_other.result (DecisionMeans c.args.store.now.shape R who own (by_change c.args.store.now.shape R (length c.args.u.now.bytes.now) (change_now R c.args.u.now (told_way w))))) (sym c.in-ToOther.is) (c.decide_to_other.ensures.says R who own t m a i (subst (λ (w : Way). MayChange c.args.store.now.shape R own c.args.u.now (told_way w)) c.in-ToOther.is can))
