use Rattle.std.proofs.Common.{arith, ◌∙◌, sym, true≢false}
use Rattle.free_search.proofs.Bests.{lacks_all, lacks_next, lacks_none}
use Rattle.free_search.proofs.extent.next_in.Goals as goal

pub loop-nth-init : goal.loop-nth-init
loop-nth-init c = λ sh R o start s. lacks_none sh R o start c.args.from

pub returns-then-has_code-clause-within : goal.returns-then-has_code-clause-within
returns-then-has_code-clause-within c = (let l = c.loop-nth-test.true in let m = c.loop-nth.auto.nth in (omega (arith, m), omega (arith, l)))

pub returns-in-Err-clause-right : goal.returns-in-Err-clause-right
returns-in-Err-clause-right c = λ sh R o start s m. absurd (true≢false (sym (c.in-Err.ensures.right sh R o start s (let l = c.loop-nth-test.true in omega (arith, l, m)))))

pub loop-nth-preserved : goal.loop-nth-preserved
loop-nth-preserved c = λ sh R o start s. lacks_next sh R o start c.args.from c.loop-nth.nth c.in-Ok.best (c.loop-nth.invariant sh R o start s) (c.in-Ok.ensures.says sh R o start s) (sym c.has_code.ensures ∙ c.if-has_code.false)

pub returns-clause-says : goal.returns-clause-says
returns-clause-says c = λ sh R o start s. lacks_all sh R o start c.args.from c.loop-nth.nth c.args.to c.loop-nth-test.false (c.loop-nth.invariant sh R o start s)

pub returns-clause-within : goal.returns-clause-within
returns-clause-within c = (let l = c.requires in (omega (arith, l), omega arith))
