use Rattle.std.proofs.Common.{◌-◌, ◌^◌, ◌<◌, ◌≤◌}
use Rattle.disk_model.specs.Types.{Untouched}
use Rattle.log_frame.specs.Types.{Covers}
use Rattle.redo_log.proofs.Walking.{Gathered}
use Rattle.redo_log.proofs.opening.read_records.Given as goal

abbrev pub invariant-groups : goal.invariant-groups
invariant-groups g l =
    let meaning = g.D.Disk.meaning in
    let file = (meaning.files l.fn.disk).log_bytes in
    record {
      look : Untouched meaning l.fn.disk l.disk;
      later : meaning.fault_count l.fn.disk ≤ meaning.fault_count l.disk;
      fits : l.groups.next < 2 ^ 64;
      run : meaning.told l.fn.disk → Covers file l.fn.groups → Gathered file l.fn.groups.next l.groups l.records.items;
    }

abbrev pub decreases-groups : goal.decreases-groups
decreases-groups g l = 2 ^ 64 - l.groups.next
