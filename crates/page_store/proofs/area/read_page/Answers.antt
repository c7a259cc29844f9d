use Rattle.page_store.proofs.Parts.{read_whole}
use Rattle.page_store.proofs.area.read_page.Goals as goal

pub returns-clause-found : goal.returns-clause-found
returns-clause-found g c told = read_whole c.in_ok-count.count c.args.at (g.D.Disk.meaning.files c.args.disk.now).data_bytes c.read.new.buf c.args.into.now c.told-into (c.in_ok-count.ensures.count told) (c.in_ok-count.ensures.bytes told)
