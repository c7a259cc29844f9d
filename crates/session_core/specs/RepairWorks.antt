-- A repair at work, as the statement's work.
use Rattle.std.specs.Prelude.{drop}
use Rattle.session_model.specs.Repairs.{RepairWork}
use Rattle.session_core.specs.declared.session.RepairWork.{RepairWork as Told}

abbrev pub repair_of : Told → RepairWork
repair_of w = record { obj = w.obj; left = drop w.done w.blocks; settled = w.settled; changed = w.changed }
