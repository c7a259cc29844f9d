use Rattle.std.proofs.Common.{◌≡◌, option_copied}
use Rattle.script_text.specs.Schedule.{with_turns}
use Rattle.script_text.specs.Pieces.{words, words_left}
use Rattle.script_text.proofs.Cuts.{left_length}
use Rattle.script_text.proofs.schedule.add_turns.Given as goal

abbrev pub invariant-loop-left : goal.invariant-loop-left
invariant-loop-left l = with_turns l.schedule l.sessions (words_left (option_copied l.left)) ≡ with_turns l.fn.schedule l.sessions (words l.items)

abbrev pub decreases-loop-left : goal.decreases-loop-left
decreases-loop-left l = left_length (option_copied l.left)
