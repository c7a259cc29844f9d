use Rattle.std.proofs.Common.{◌-◌, length, reverse}
use Rattle.redo_log.proofs.Payloads.{Read}
use Rattle.redo_log.proofs.payload.add_records.Given as goal

abbrev pub invariant-loop-place : goal.invariant-loop-place
invariant-loop-place l = Read l.payload l.place (reverse l.fn.into.items) (reverse l.into.items)

abbrev pub decreases-loop-place : goal.decreases-loop-place
decreases-loop-place l = length l.payload - l.place
