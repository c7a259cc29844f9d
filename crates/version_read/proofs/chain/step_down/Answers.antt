use Rattle.std.proofs.Common.{◌+◌, subst}
use Rattle.version_read.specs.Walking.{EndsIn, Goes, txn_or_none}
use Rattle.version_read.proofs.Answering.{ends_lent}
use Rattle.version_read.proofs.Stepping.{used_block}
use Rattle.version_read.proofs.chain.step_down.Goals as goal

pub returns-in-None-clause-sound : goal.returns-in-None-clause-sound
returns-in-None-clause-sound g c = λ sh R b k n most h t w. absurd (c.in-None.ensures.leads sh R b k n most h t w)

pub returns-in-Some-Done-clause-lent : goal.returns-in-Some-Done-clause-lent
returns-in-Some-Done-clause-lent g c = ends_lent (λ u. g.P.UndoPages.lends u c.args.pages.now) c.args.at.block c.in-Some-Done.seen (subst (EndsIn c.args.at.block) c.in-Some-Done.field-0-is c.in-Some-Done.ensures.place) c.requires

pub returns-in-Err-clause-sound : goal.returns-in-Err-clause-sound
returns-in-Err-clause-sound g c = λ sh R b k n most h t w.
    c.in-Err.ensures.sound sh R h (used_block sh R b k c.args.s (txn_or_none c.args.own.now) (n + 1) most c.in-Some-Below.below (subst (Goes sh R b k c.args.s c.args.own.now n most) c.in-Some-Below.field-0-is (c.in-Some-Below.ensures.leads sh R b k n most h t w)))
