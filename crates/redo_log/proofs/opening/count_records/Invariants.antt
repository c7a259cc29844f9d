use Rattle.std.proofs.Common.{◌≡◌, ◌-◌, ◌^◌, ◌<◌, ◌≤◌, List}
use Rattle.disk_model.specs.Types.{Untouched}
use Rattle.redo_record.specs.declared.record.Record.{Record}
use Rattle.log_frame.specs.Types.{Covers}
use Rattle.redo_log.specs.Kept.{last_number}
use Rattle.redo_log.proofs.Walking.{Counting}
use Rattle.redo_log.proofs.opening.count_records.Given as goal

abbrev pub invariant-groups : goal.invariant-groups
invariant-groups g l =
    let meaning = g.D.Disk.meaning in
    let file = (meaning.files l.fn.disk).log_bytes in
    record {
      look : Untouched meaning l.fn.disk l.disk;
      later : meaning.fault_count l.fn.disk ≤ meaning.fault_count l.disk;
      fits : l.groups.next < 2 ^ 64;
      run : (R0 : List Record) → meaning.told l.fn.disk → Covers file l.fn.groups → l.fn.before ≡ last_number R0 → Counting file l.fn.groups.next R0 l.groups l.count;
    }

abbrev pub decreases-groups : goal.decreases-groups
decreases-groups g l = 2 ^ 64 - l.groups.next
