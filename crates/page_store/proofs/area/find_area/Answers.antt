use Rattle.std.proofs.Common.{Bool, subst}
use Rattle.page_store.specs.Types.{IsHeadRead}
use Rattle.page_store.proofs.Heads.{found_shut}
use Rattle.page_store.proofs.area.find_area.Goals as goal

pub returns-then-head-ne1-clause-found : goal.returns-then-head-ne1-clause-found
returns-then-head-ne1-clause-found g c told =
    let bytes = (g.D.Disk.meaning.files c.args.disk.now).data_bytes in
    let read = subst (λ (b : Bool). IsHeadRead bytes c.read_head.new.head b) c.if-not-whole.false (c.in_ok-whole.ensures.found told) in
    found_shut c.args.shape.now bytes c.read_head.new.head read c.if-head-ne1.true
