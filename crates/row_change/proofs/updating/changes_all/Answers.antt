use Rattle.std.proofs.Common.{sym, ap, true≢false}
use Rattle.row_change.specs.Fitting.{told_way}
use Rattle.row_change.specs.Updating.{blocks_for}
use Rattle.row_change.specs.declared.fitting.Way.{Way}
use Rattle.row_change.proofs.updating.changes_all.Goals as goal

pub returns-in-InPlace-clause-all : goal.returns-in-InPlace-clause-all
returns-in-InPlace-clause-all c = λ e x. absurd (true≢false (sym e))

pub returns-in-InPlace-clause-one : goal.returns-in-InPlace-clause-one
returns-in-InPlace-clause-one c = λ e x. ap (λ (w : Way). blocks_for x (told_way w)) c.in-InPlace.is

pub returns-in-ToHead-clause-all : goal.returns-in-ToHead-clause-all
returns-in-ToHead-clause-all c = λ e x. ap (λ (w : Way). blocks_for x (told_way w)) c.in-ToHead.is

pub returns-in-ToHead-clause-one : goal.returns-in-ToHead-clause-one
returns-in-ToHead-clause-one c = λ e x. absurd (true≢false e)

pub returns-in-ToOther-clause-all : goal.returns-in-ToOther-clause-all
returns-in-ToOther-clause-all c = λ e x. ap (λ (w : Way). blocks_for x (told_way w)) c.in-ToOther.is

pub returns-in-ToOther-clause-one : goal.returns-in-ToOther-clause-one
returns-in-ToOther-clause-one c = λ e x. absurd (true≢false e)
