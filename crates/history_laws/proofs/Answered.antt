-- Answers of a change as causes.
use Rattle.std.proofs.Common.{refl, sym, ◌∙◌, ap}
use Rattle.redo_model.specs.Model.{view, commit_count}
use Rattle.change_laws.specs.Drafts.{Change, change_size, delete_of}
use Rattle.change_laws.specs.Answers.{stand_at}
use Rattle.history_model.specs.Spans.{own_then}
use Rattle.history_model.proofs.Targets.{same_some}
use Rattle.history_laws.specs.Answered.{BusyAnswers, TakenAnswers, NeedsSeek, SpentUpdates, SpentDeletes}
use Rattle.history_laws.proofs.Frames.{zero_is}

pub busy_answers : BusyAnswers
busy_answers x st o n start u on m = record {
  obj = o;
  row = n;
  on = on;
  was = m.was;
  there = ap (λ t. view x.ended o (commit_count x.ended) t n) (zero_is (own_then x)) ∙ m.there;
  busy = m.busy;
}

pub taken_answers : TakenAnswers
taken_answers x st o n p start ts on m = record { obj = o; row = n; on = on; stand = stand_at x.ended p; stands = m.free.write.stands; block = m.block; first = m.first; no_slot = m.no_slot }

pub needs_seek : NeedsSeek
needs_seek x name target text o n p start on f away = record { obj = o; row = n; on = on; stand = stand_at x.ended p; stands = f.write.stands; away = away; sought = refl }

pub spent_updates : SpentUpdates
spent_updates sh x name target text o n p start bs to hs on found m = record {
  need = change_size x.ended m.made;
  needs = record { obj = o; row = n; on = on; stand = stand_at x.ended p; stands = m.past.free.write.stands; to = to; target = found; change = m.made; changed = m.change_is; size = refl };
  full = m.full;
}

pub spent_deletes : SpentDeletes
spent_deletes sh x name target o n p start bs hs on m = record {
  need = change_size x.ended m.made;
  needs = record { obj = o; row = n; on = on; stand = stand_at x.ended p; stands = m.past.free.write.stands; size = ap (λ (c : Change). change_size x.ended c) (sym (same_some (delete_of o n (stand_at x.ended p)) m.made m.change_is)) };
  full = m.full;
}
