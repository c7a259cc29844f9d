use Rattle.page_laws.proofs.TxnsLaw as laws
use Rattle.page_laws.proofs.txns_are_in_table.Goals as goal

pub returns : goal.returns
returns c = laws.txns_are_in_table
