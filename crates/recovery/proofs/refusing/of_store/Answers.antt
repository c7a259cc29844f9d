use Rattle.std.proofs.Common.{inr}
use Rattle.recovery.proofs.refusing.of_store.Goals as goal

pub returns-in-BadPage-clause-device : goal.returns-in-BadPage-clause-device
returns-in-BadPage-clause-device g c = λ e. inr (c.bad_page.ensures.cause.rose e)
