-- A step is one of the list's cursor: so what is true of the cursor stays true, and a stop is a right one, by the laws on it.
use Rattle.std.specs.Prelude.{◌≡◌, ℕ, List, Some}
use Rattle.seg_words.specs.Types.{Shape}
use Rattle.redo_model.specs.Records.{Record}
use Rattle.shrink_laws.specs.declared.skip.Skip.{Skip}
use Rattle.shrink_laws.specs.Cursor.{Cleared, StepMoves, StepSkips, StepStops}
use Rattle.shrink_move.specs.declared.next.Next.{Next}
use Rattle.shrink_move.specs.declared.next.Next.TheVariants.{Bottom, Skips, NoFit, ToBody, ToBlock}
use Rattle.shrink_move.specs.Nexts.{NextIs}
use Rattle.shrink_move.specs.Stepping.{step_list}

-- what the step to the list `next` is to the cursor
abbrev pub Follows : Shape → List Record → List Record → ℕ → List Skip → ℕ → Next → Type 0
Follows sh R next o skips cursor Bottom = Cleared sh R o skips 0 cursor
Follows sh R next o skips cursor (Skips x t) = StepSkips sh R o skips cursor x.place x.at.dba x.at.slot t
Follows sh R next o skips cursor (NoFit x) = StepStops sh R o skips cursor x.place x.at.dba x.at.slot
Follows sh R next o skips cursor (ToBody x body) = StepMoves sh R next o skips cursor x.place x.at.dba x.at.slot
Follows sh R next o skips cursor (ToBlock x target) = StepMoves sh R next o skips cursor x.place x.at.dba x.at.slot

abbrev pub StepsFollow : Type 0
StepsFollow = (sh : Shape) (R next : List Record) (o : ℕ) (skips : List Skip) (cursor : ℕ) (x : Next) → NextIs sh R o skips cursor x → step_list sh R o x ≡ Some next → Follows sh R next o skips cursor x
