use Rattle.redo_laws.proofs.spread.SpreadLaw as laws
use Rattle.redo_laws.proofs.rows.view_of_no_transaction_is_the_table.Goals as goal

pub returns : goal.returns
returns c = laws.view_of_no_transaction
