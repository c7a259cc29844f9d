use Rattle.std.proofs.Common.{◌≡◌, ◌+◌, drop}
use Rattle.log_frame.specs.Types.{first_wrong}
use Rattle.log_frame.proofs.head.first_wrong.Given as goal

-- what the rest says is what all say
abbrev pub invariant-loop-i : goal.invariant-loop-i
invariant-loop-i l = first_wrong l.at l.right (drop l.at l.bytes) ≡ first_wrong (l.at + l.i) (drop l.i l.right) (drop (l.at + l.i) l.bytes)
