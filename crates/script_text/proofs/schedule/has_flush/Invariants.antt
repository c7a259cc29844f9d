use Rattle.std.proofs.Common.{◌≡◌, option_copied}
use Rattle.seg_words.specs.Types.{list_any}
use Rattle.script_text.specs.Schedule.{is_flush}
use Rattle.script_text.specs.Pieces.{words, words_left}
use Rattle.script_text.proofs.Cuts.{left_length}
use Rattle.script_text.proofs.schedule.has_flush.Given as goal

abbrev pub invariant-loop-left : goal.invariant-loop-left
invariant-loop-left l = list_any is_flush (words_left (option_copied l.left)) ≡ list_any is_flush (words l.items)

abbrev pub decreases-loop-left : goal.decreases-loop-left
decreases-loop-left l = left_length (option_copied l.left)
