use Rattle.std.proofs.Common.{rules, refl, arith}
use Rattle.store_core.specs.declared.fault.StoreFault.TheVariants.{BadPage}
use Rattle.store_core.proofs.Taking.{refused_looked, stays_same, page_is_there}
use Rattle.store_core.proofs.store.Store.fetch.Goals as goal

pub returns-clause-looked : goal.returns-clause-looked
returns-clause-looked g c =
    refused_looked (Unit {0}) g.D.Disk.meaning _ _ (search rules) (BadPage c.args.dba) (record {
      same = record { disk = search rules; loan = search rules; first = search rules; shape = search rules };
      log = stays_same _ _ (search rules);
      pages = search rules;
      commits = search rules;
      fault = refl;
      device = λ e. cc e;
    })

pub returns-clause-sound : goal.returns-clause-sound
returns-clause-sound g c = λ R h unspent has.
    let there = page_is_there g.D.Disk.meaning R c.args.self.now c.self.inside.shape c.self.inside.pages c.args.dba (search rules) (search rules) h has in
    omega (arith, there.1, c.is_there.ensures.past c.if-is_there.false there.0)
