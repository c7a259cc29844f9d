use Rattle.std.specs.Prelude.{ℕ, List}
use Rattle.seg_words.specs.Types.{Shape}
use Rattle.redo_model.specs.Records.{Record}
use Rattle.page_says.specs.Levels.{SaysSecond}
use Rattle.free_search.specs.Codes.{LacksGoodNth}
use Rattle.free_search.proofs.extent.next_in.Given as goal

abbrev pub invariant-loop-nth : goal.invariant-loop-nth
invariant-loop-nth l = (sh : Shape) (R : List Record) (o start : ℕ) → SaysSecond sh R o start l.page → LacksGoodNth sh R o start l.from l.nth
