-- A shrink at work, as the statement's work: before it stopped, and after.
use Rattle.history_laws.specs.Working.{MoveWork, StoppedWork}
use Rattle.session_core.specs.declared.session.ShrinkWork.{ShrinkWork}
use Rattle.session_core.specs.declared.session.LowerWork.{LowerWork}

abbrev pub shrink_of : ShrinkWork → MoveWork
shrink_of w = record { obj = w.shrink.obj; cursor = w.shrink.cursor; skips = w.shrink.skips; moved = w.moved }

abbrev pub lower_of : LowerWork → StoppedWork
lower_of w = record { obj = w.obj; skips = w.skips; moved = w.moved; stopped = w.stopped; stop = w.stop }
