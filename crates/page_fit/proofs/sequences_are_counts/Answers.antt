use Rattle.page_fit.proofs.SequenceLaw.{sequences_are_counts as law}
use Rattle.page_fit.proofs.sequences_are_counts.Goals as goal

pub returns : goal.returns
returns c = law
