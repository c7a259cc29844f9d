use Rattle.std.proofs.Common.{arith}
use Rattle.page_bytes.proofs.Alike.{spells_none}
use Rattle.page_bytes.proofs.page.decode.Goals as goal

pub returns-then-at-lt-BLOCK_SIZE-clause-only : goal.returns-then-at-lt-BLOCK_SIZE-clause-only
returns-then-at-lt-BLOCK_SIZE-clause-only g c = λ p has is. spells_none g.P.PageForm.spelling g.P.PageForm.meaning c.args.bytes.now c.in_ok-page.page p c.spelled_until-at.result
    (g.met.P.PageForm.reads_again p has) is c.in_ok-page.ensures c.spelled_until-at.ensures.value (omega (arith, c.told-bytes))
