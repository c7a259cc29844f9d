use Rattle.std.proofs.Common.{◌≡◌, drop, filter}
use Rattle.disk_model.specs.Types.{is_by, files_of, picked}
use Rattle.disk_model.proofs.crashed.replay.Given as goal

-- what the rest makes of the files so far is what all make of the first
abbrev pub invariant-loop-dated : goal.invariant-loop-dated
invariant-loop-dated l =
    picked l.tear (files_of l.seen) (files_of l.image) (filter (is_by l.moment) (drop l.dated-index l.changes))
    ≡ picked l.tear (files_of l.fn.seen) (files_of l.fn.image) (filter (is_by l.moment) l.changes)
