use Rattle.std.proofs.Common.{ap, arith}
use Rattle.disk_model.specs.Types.{Files}
use Rattle.page_store.proofs.Parts.{head_found}
use Rattle.page_store.proofs.area.read_head.Goals as goal

pub returns-clause-found : goal.returns-clause-found
returns-clause-found g c told =
    let meaning = g.D.Disk.meaning in
    let len = c.len.ensures in
    head_found (meaning.files c.args.disk.now).data_bytes (meaning.files c.len.new.self).data_bytes c.read_page.new.into c.read_page.result (ap (λ (f : Files). f.data_bytes) (len.same told)) (omega (arith, c.in_ok-len.ensures.len told)) (c.read_page.ensures.found (len.told.1 told))
