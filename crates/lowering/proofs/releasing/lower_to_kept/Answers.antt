use Rattle.lowering.proofs.Adding.{none_added, none_answered, some_added, some_answered, tried_same}
use Rattle.lowering.proofs.releasing.lower_to_kept.Goals as goal

pub returns-then-kept-ground-clause-adds : goal.returns-then-kept-ground-clause-adds
returns-then-kept-ground-clause-adds g c = λ R o k e. none_added g.D.Disk.meaning c.args.store.now R o c.args.kept c.args.ground.now c.none_released.result k e c.if-kept-ground.true c.requires.unspent

pub returns-then-kept-ground-clause-answers : goal.returns-then-kept-ground-clause-answers
returns-then-kept-ground-clause-answers g c = λ R o k e. none_answered g.D.Disk.meaning c.args.store.now R o c.args.kept c.args.ground.now c.none_released.result k e c.if-kept-ground.true c.none_released.ensures

pub returns-then-kept-ground-clause-tried : goal.returns-then-kept-ground-clause-tried
returns-then-kept-ground-clause-tried g c = tried_same g.D.Disk.meaning c.args.store.now c.none_released.result c.requires.unspent

pub returns-clause-adds : goal.returns-clause-adds
returns-clause-adds g c = λ R o k e. some_added g.D.Disk.meaning c.args.store.now c.release.new.store R o c.args.kept c.args.ground.now c.release.result k e c.if-kept-ground.false (λ l lawful. c.release.ensures.adds R o k l lawful)

pub returns-clause-answers : goal.returns-clause-answers
returns-clause-answers g c = λ R o k e. some_answered g.D.Disk.meaning c.args.store.now R o c.args.kept c.args.ground.now c.release.result k e c.if-kept-ground.false (λ l. c.release.ensures.answers R o k l)
