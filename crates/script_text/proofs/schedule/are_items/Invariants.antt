use Rattle.std.proofs.Common.{◌≡◌, option_copied}
use Rattle.seg_words.specs.Types.{list_all}
use Rattle.script_text.specs.Schedule.{is_item}
use Rattle.script_text.specs.Pieces.{words, words_left}
use Rattle.script_text.proofs.Cuts.{left_length}
use Rattle.script_text.proofs.schedule.are_items.Given as goal

abbrev pub invariant-loop-left : goal.invariant-loop-left
invariant-loop-left l = list_all is_item (words_left (option_copied l.left)) ≡ list_all is_item (words l.items)

abbrev pub decreases-loop-left : goal.decreases-loop-left
decreases-loop-left l = left_length (option_copied l.left)
