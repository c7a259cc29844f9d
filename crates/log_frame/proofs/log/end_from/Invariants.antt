use Rattle.std.proofs.Common.{◌≡◌, ◌-◌, ◌^◌, ◌≤◌, length}
use Rattle.disk_model.specs.Types.{Untouched}
use Rattle.log_frame.proofs.Walk.{Passed}
use Rattle.log_frame.proofs.log.end_from.Given as goal

abbrev pub invariant-groups : goal.invariant-groups
invariant-groups g l =
    let meaning = g.D.Disk.meaning in
    record {
      later : meaning.fault_count l.fn.disk ≤ meaning.fault_count l.disk;
      untouched : Untouched meaning l.fn.disk l.disk;
      passed : meaning.told l.fn.disk → l.len ≡ length (meaning.files l.fn.disk).log_bytes → Passed (meaning.files l.fn.disk).log_bytes l.from l.at;
    }

abbrev pub decreases-groups : goal.decreases-groups
decreases-groups g l = 2 ^ 64 - l.at
