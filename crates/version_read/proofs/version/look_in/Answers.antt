use Rattle.std.proofs.Common.{refl}
use Rattle.version_read.proofs.Answering.{image_there, some_there, none_there}
use Rattle.version_read.proofs.version.look_in.Goals as goal

pub returns-in-Some-clause-slot : goal.returns-in-Some-clause-slot
returns-in-Some-clause-slot c = λ sh R b o t h. c.look.ensures.slot sh R b c.args.slot o t (image_there R b c.args.slot c.args.page.now c.in-Some.image.now h c.in-Some.ensures)

pub returns-in-None-clause-there : goal.returns-in-None-clause-there
returns-in-None-clause-there c = λ R b h. ((λ e. absurd cc), (λ l. absurd (none_there R b c.args.slot c.args.page.now h c.in-None.ensures l)))

pub returns-in-Some-clause-there : goal.returns-in-Some-clause-there
returns-in-Some-clause-there c = λ R b h. ((λ e. some_there R b c.args.slot c.args.page.now c.in-Some.image.now h c.in-Some.ensures), (λ l. refl))
