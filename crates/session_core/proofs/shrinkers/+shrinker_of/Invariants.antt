use Rattle.std.proofs.Common.{length}
use Rattle.session_core.proofs.shrinkers.+shrinker_of.Given as goal

abbrev pub decreases-shrinker_of : goal.decreases-shrinker_of
decreases-shrinker_of l = length l.shrinks.now
