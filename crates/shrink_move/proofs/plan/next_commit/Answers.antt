use Rattle.std.proofs.Common.{◌∙◌, ap, suc, ℕ, arith}
use Rattle.store_core.proofs.Lookups.{looked_same, looked_err}
use Rattle.shrink_move.proofs.Drafted.{numbers_left}
use Rattle.shrink_move.proofs.plan.next_commit.Goals as goal

pub returns-in-Some-clause-looked : goal.returns-in-Some-clause-looked
returns-in-Some-clause-looked g c = looked_same g.D.Disk.meaning c.args.store.now _ c.requires.unspent

pub returns-in-Some-clause-says : goal.returns-in-Some-clause-says
returns-in-Some-clause-says g c = λ R t. c.in-Some.ensures.next ∙ ap (λ (n : ℕ). suc n) (c.commits-commits.ensures.list R t.list)

pub returns-in-None-clause-looked : goal.returns-in-None-clause-looked
returns-in-None-clause-looked g c = looked_err g.D.Disk.meaning c.args.store.now c.refuse.new.self c.refuse.result c.refuse.ensures.looked

pub returns-in-None-clause-sound : goal.returns-in-None-clause-sound
returns-in-None-clause-sound g c = λ R o t i. absurd (let n = c.in-None.ensures.greatest in let e = c.commits-commits.ensures.list R t.list in let l = numbers_left R o i t.list.few in omega (arith, n, e, l))
