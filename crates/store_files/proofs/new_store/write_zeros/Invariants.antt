use Rattle.std.proofs.Common.{◌≡◌, ◌-◌, ◌≤◌, ◌↔◌}
use Rattle.disk_model.specs.Types.{IsSettled}
use Rattle.disk_model.specs.declared.disk.File.TheVariants.{Data}
use Rattle.store_files.proofs.Zeros.{Zeroed}
use Rattle.store_files.proofs.new_store.write_zeros.Given as goal

abbrev pub invariant-pieces : goal.invariant-pieces
invariant-pieces g l =
    let meaning = g.D.Disk.meaning in
    record {
      later : meaning.fault_count l.fn.disk ≤ meaning.fault_count l.disk;
      told : meaning.told l.disk ↔ meaning.told l.fn.disk;
      reads : meaning.log_reads l.disk ≡ meaning.log_reads l.fn.disk;
      within : l.done ≤ l.total;
      zeroed : IsSettled meaning l.fn.disk Data → Zeroed meaning l.fn.disk l.total l.done l.disk;
    }

abbrev pub decreases-pieces : goal.decreases-pieces
decreases-pieces g l = l.total - l.done
