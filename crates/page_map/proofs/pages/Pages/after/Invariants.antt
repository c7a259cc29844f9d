use Rattle.page_map.proofs.Replaying.{AreIn}
use Rattle.page_map.proofs.pages.Pages.after.Given as goal

abbrev pub invariant-loop-i : goal.invariant-loop-i
invariant-loop-i l = AreIn l.shape l.records l.i l.pages
