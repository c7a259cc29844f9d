use Rattle.std.proofs.Common.{ap}
use Rattle.disk_model.specs.Types.{Files}
use Rattle.disk_model.proofs.Kept.{write_so_far, write_in_range, write_data, write_log}
use Rattle.disk_model.proofs.memory.Memory.keep_write.Goals as goal

pub invariant_of-self-in-Data-clause-so_far : goal.invariant_of-self-in-Data-clause-so_far
invariant_of-self-in-Data-clause-so_far c = write_so_far c.args.self.now c.args.file c.args.offset c.args.bytes.now c.in_ok-kept.kept c.write_and_keep.new.file.items c.write_and_keep.new.changes.items c.in_ok-kept.ensures c.in_ok-write_and_keep-in-Data.ensures.changes

pub invariant_of-self-in-Data-clause-in_range : goal.invariant_of-self-in-Data-clause-in_range
invariant_of-self-in-Data-clause-in_range c = write_in_range c.args.self.now c.args.file c.args.offset c.args.bytes.now c.in_ok-kept.kept c.write_and_keep.new.file.items c.write_and_keep.new.changes.items c.in_ok-kept.ensures c.in_ok-write_and_keep-in-Data.ensures.changes c.requires

pub invariant_of-self-in-Data-clause-data_is : goal.invariant_of-self-in-Data-clause-data_is
invariant_of-self-in-Data-clause-data_is c = ap (λ (f : Files). f.data_bytes) (write_data c.args.self.now c.args.file c.args.offset c.args.bytes.now c.in_ok-kept.kept c.write_and_keep.new.file.items c.write_and_keep.new.changes.items c.in_ok-kept.ensures c.in_ok-write_and_keep-in-Data.ensures.changes c.in-Data.is c.in_ok-write_and_keep-in-Data.ensures.file)

pub invariant_of-self-in-Data-clause-log_is : goal.invariant_of-self-in-Data-clause-log_is
invariant_of-self-in-Data-clause-log_is c = ap (λ (f : Files). f.log_bytes) (write_data c.args.self.now c.args.file c.args.offset c.args.bytes.now c.in_ok-kept.kept c.write_and_keep.new.file.items c.write_and_keep.new.changes.items c.in_ok-kept.ensures c.in_ok-write_and_keep-in-Data.ensures.changes c.in-Data.is c.in_ok-write_and_keep-in-Data.ensures.file)

pub invariant_of-self-in-Log-clause-so_far : goal.invariant_of-self-in-Log-clause-so_far
invariant_of-self-in-Log-clause-so_far c = write_so_far c.args.self.now c.args.file c.args.offset c.args.bytes.now c.in_ok-kept.kept c.write_and_keep-in-Log.new.file.items c.write_and_keep-in-Log.new.changes.items c.in_ok-kept.ensures c.in_ok-write_and_keep-in-Log.ensures.changes

pub invariant_of-self-in-Log-clause-in_range : goal.invariant_of-self-in-Log-clause-in_range
invariant_of-self-in-Log-clause-in_range c = write_in_range c.args.self.now c.args.file c.args.offset c.args.bytes.now c.in_ok-kept.kept c.write_and_keep-in-Log.new.file.items c.write_and_keep-in-Log.new.changes.items c.in_ok-kept.ensures c.in_ok-write_and_keep-in-Log.ensures.changes c.requires

pub invariant_of-self-in-Log-clause-data_is : goal.invariant_of-self-in-Log-clause-data_is
invariant_of-self-in-Log-clause-data_is c = ap (λ (f : Files). f.data_bytes) (write_log c.args.self.now c.args.file c.args.offset c.args.bytes.now c.in_ok-kept.kept c.write_and_keep-in-Log.new.file.items c.write_and_keep-in-Log.new.changes.items c.in_ok-kept.ensures c.in_ok-write_and_keep-in-Log.ensures.changes c.in-Log.is c.in_ok-write_and_keep-in-Log.ensures.file)

pub invariant_of-self-in-Log-clause-log_is : goal.invariant_of-self-in-Log-clause-log_is
invariant_of-self-in-Log-clause-log_is c = ap (λ (f : Files). f.log_bytes) (write_log c.args.self.now c.args.file c.args.offset c.args.bytes.now c.in_ok-kept.kept c.write_and_keep-in-Log.new.file.items c.write_and_keep-in-Log.new.changes.items c.in_ok-kept.ensures c.in_ok-write_and_keep-in-Log.ensures.changes c.in-Log.is c.in_ok-write_and_keep-in-Log.ensures.file)
