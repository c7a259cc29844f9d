use Rattle.free_search.proofs.Finding.{refused_few, refused_most}
use Rattle.free_search.proofs.search.refusal.Goals as goal

pub returns-then-look-lt-MOST_EXTENTS-clause-why : goal.returns-then-look-lt-MOST_EXTENTS-clause-why
returns-then-look-lt-MOST_EXTENTS-clause-why c = λ sh R k. refused_few sh R c.args.look.now k c.if-look-lt-MOST_EXTENTS.true

pub returns-else-look-lt-MOST_EXTENTS-clause-why : goal.returns-else-look-lt-MOST_EXTENTS-clause-why
returns-else-look-lt-MOST_EXTENTS-clause-why c = λ sh R k. refused_most sh R c.args.look.now k c.if-look-lt-MOST_EXTENTS.false
