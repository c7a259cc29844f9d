use Rattle.std.proofs.Common.{◌≡◌, length}
use Rattle.scan_table.proofs.Lowering.{AreNone}
use Rattle.scan_table.proofs.scans.no_scans.Given as goal

abbrev pub invariant-loop-who : goal.invariant-loop-who
invariant-loop-who l = (length l.places.items ≡ l.who) × AreNone l.places.items
