use Rattle.redo_model.proofs.LawfulRuns as laws
use Rattle.redo_model.proofs.runs.runs_of_all_kinds_are_lawful.Goals as goal

pub returns : goal.returns
returns c = record { inserted = laws.nine_lawful; rolled_back = laws.backed_lawful; undo_reused = laws.reused_lawful; all_kinds = laws.lowered_lawful }
