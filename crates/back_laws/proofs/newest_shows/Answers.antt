use Rattle.back_laws.proofs.BackHomes as laws
use Rattle.back_laws.proofs.newest_shows.Goals as goal

pub returns : goal.returns
returns c = laws.newest_shows
