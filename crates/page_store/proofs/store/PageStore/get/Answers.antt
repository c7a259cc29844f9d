use Rattle.page_store.proofs.Opening.{is_page, is_there}
use Rattle.page_store.proofs.store.PageStore.get.Goals as goal

pub returns-in-Ok-true-clause-page : goal.returns-in-Ok-true-clause-page
returns-in-Ok-true-clause-page g c pages store =
    is_page c.args.self.now pages (g.D.Disk.meaning.files c.args.disk.now).data_bytes store.file c.args.dba c.requires c.offset_of.result c.read_page.new.into c.in-Ok-true.field-0 c.offset_of.ensures c.in-Ok-true.field-0-test (c.in-Ok-true.ensures.found store.settled.told)

pub returns-in-Ok-false-clause-page : goal.returns-in-Ok-false-clause-page
returns-in-Ok-false-clause-page g c pages store =
    is_there c.args.self.now pages (g.D.Disk.meaning.files c.args.disk.now).data_bytes store.file c.args.dba c.requires c.offset_of.result c.read_page.new.into c.in-Ok-false.field-0 c.offset_of.ensures c.in-Ok-false.field-0-test (c.in-Ok-false.ensures.found store.settled.told)
