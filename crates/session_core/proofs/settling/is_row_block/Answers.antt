use Rattle.session_core.proofs.Settlings.{block_told, block_called}
use Rattle.session_core.proofs.settling.is_row_block.Goals as goal

pub returns-clause-told : goal.returns-clause-told
returns-clause-told g c = λ R t i. block_told g.D.Disk.meaning R c.args.obj c.args.dba c.args.store.now c.fix_status-fixed.new.store c.fix_status-fixed.result c.told_block.result c.told_block.ensures c.requires.unspent t c.fix_status-fixed.ensures.tried (c.fix_status-fixed.ensures.fixes R t i)

pub returns-clause-called : goal.returns-clause-called
returns-clause-called g c = block_called g.D.Disk.meaning c.args.store.now c.fix_status-fixed.new.store c.fix_status-fixed.result c.told_block.result c.told_block.ensures c.requires.unspent c.fix_status-fixed.ensures.tried
