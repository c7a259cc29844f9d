use Rattle.std.proofs.Common.{◌+◌, sym, ◌∙◌, ap, refl}
use Rattle.disk_model.specs.Types.{DatedChange, Files, first_files, memory_files}
use Rattle.disk_model.proofs.Kept.{so_far_later_push, in_range_push, seen_later, is_seen}
use Rattle.disk_model.proofs.memory.Memory.keep_mark.Goals as goal

pub invariant_of-self-2-clause-so_far : goal.invariant_of-self-2-clause-so_far
invariant_of-self-2-clause-so_far c =
    so_far_later_push c.args.self.now.clock c.args.self.now.changes.items c.push.new.self.items (record { moment = c.args.self.now.clock + 1; change = c.args.change }) refl c.in_ok-push.ensures.items c.args.self.now.so_far

pub invariant_of-self-2-clause-data_is : goal.invariant_of-self-2-clause-data_is
invariant_of-self-2-clause-data_is c =
    let m = c.args.self.now in
    let e : DatedChange = record { moment = m.clock + 1; change = c.args.change } in
    let is = seen_later (first_files m) (memory_files m) m.changes.items c.push.new.self.items e c.in_ok-push.ensures.items (is_seen m) ∙ c.requires.mark (memory_files m) in
    sym (ap (λ (f : Files). f.data_bytes) is)

pub invariant_of-self-2-clause-log_is : goal.invariant_of-self-2-clause-log_is
invariant_of-self-2-clause-log_is c =
    let m = c.args.self.now in
    let e : DatedChange = record { moment = m.clock + 1; change = c.args.change } in
    let is = seen_later (first_files m) (memory_files m) m.changes.items c.push.new.self.items e c.in_ok-push.ensures.items (is_seen m) ∙ c.requires.mark (memory_files m) in
    sym (ap (λ (f : Files). f.log_bytes) is)

pub invariant_of-self-2-clause-in_range : goal.invariant_of-self-2-clause-in_range
invariant_of-self-2-clause-in_range c =
    in_range_push c.args.self.now.changes.items c.push.new.self.items (record { moment = c.args.self.now.clock + 1; change = c.args.change }) c.in_ok-push.ensures.items c.requires.fits c.args.self.now.in_range
