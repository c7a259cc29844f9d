-- A step is one: the list, the slots that were skipped and where the cursor stands leave no choice.
use Rattle.std.specs.Prelude.{◌≡◌, ℕ, List}
use Rattle.seg_words.specs.Types.{Shape}
use Rattle.redo_model.specs.Records.{Record}
use Rattle.shrink_laws.specs.declared.skip.Skip.{Skip}
use Rattle.shrink_move.specs.declared.next.Next.{Next}
use Rattle.shrink_move.specs.Nexts.{NextIs}

abbrev pub NextsAreOne : Type 0
NextsAreOne = (sh : Shape) (R : List Record) (o : ℕ) (skips : List Skip) (cursor : ℕ) (x y : Next) → NextIs sh R o skips cursor x → NextIs sh R o skips cursor y → x ≡ y
