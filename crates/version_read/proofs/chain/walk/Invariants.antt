use Rattle.std.proofs.Common.{ℕ, List}
use Rattle.seg_words.specs.Types.{Shape}
use Rattle.redo_model.specs.Records.{Record}
use Rattle.version_laws.specs.Types.{HoldsTable}
use Rattle.version_read.specs.Walking.{IsWalk, LeadsDown, txn_or_none}
use Rattle.version_read.proofs.chain.walk.Given as goal

-- the page of the address where the walk stands can be lent; of a lawful list the walk from there ends where it is to end
abbrev pub invariant-loop-followed : goal.invariant-loop-followed
invariant-loop-followed g l =
    g.P.UndoPages.looked l.fn.pages l.pages × g.P.UndoPages.lends l.at.block l.pages
    × ((sh : Shape) (R : List Record) (b k : ℕ) → g.P.UndoPages.has_list sh R l.fn.pages → HoldsTable R l.table → IsWalk sh R b k l.s l.own l.ring l.fn.from → LeadsDown sh R b k l.s (txn_or_none l.own) l.followed l.most l.at)
