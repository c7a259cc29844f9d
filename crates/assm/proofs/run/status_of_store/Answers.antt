use Rattle.std.proofs.Common.{sym, subst}
use Rattle.store_core.specs.declared.fault.StoreFault.{StoreFault}
use Rattle.assm.specs.declared.status.Status.{Status}
use Rattle.assm.specs.Ends.{IsBlockByte, StopsAs}
use Rattle.assm.proofs.Ending.{block_byte}
use Rattle.assm.proofs.run.status_of_store.Goals as goal

pub returns-in-BadPage-clause-stops : goal.returns-in-BadPage-clause-stops
returns-in-BadPage-clause-stops g c =
    let meaning = g.D.Disk.meaning in
    subst (λ (f : StoreFault). StopsAs meaning c.args.disk.now c.bad_page.new.disk f c.from.result) (sym c.in-BadPage.is)
    (subst (λ (s : Status). IsBlockByte meaning c.bad_page.new.disk c.in-BadPage.dba s) (sym c.from.ensures)
    (block_byte meaning c.args.disk.now c.bad_page.new.disk c.in-BadPage.dba c.bad_page.result c.bad_page.ensures.untouched c.bad_page.ensures.place c.bad_page.ensures.byte))
