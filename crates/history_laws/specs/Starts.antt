-- The starts of an update or a delete: where a look at the row's place finds that it changed, a start is noted, and as many as
-- there may be are a refusal.
use Rattle.std.specs.Prelude.{◌≡◌, ℕ, suc, ◌<◌, [], ◌∷◌, ◌++◌, length, Some, None}
use Rattle.seg_words.specs.Types.{Shape}
use Rattle.change_laws.specs.Causes.{IsChanged}
use Rattle.script_text.specs.declared.statement.Statement.{Statement}
use Rattle.history_model.specs.declared.limit.TheConstants.{MOST_STARTS}
use Rattle.history_model.specs.Spans.{Span}
use Rattle.history_model.specs.Causes.{IsAgain}
use Rattle.history_laws.specs.Working.{FoundAt, RowWork, RowStands}

-- the place is left, and the number of commits noted
abbrev pub noted : RowWork → ℕ → RowWork
noted k c = record { obj = k.obj; row = k.row; starts = k.starts ++ c ∷ []; place = None }

abbrev pub StartsGoOn : Type 0
StartsGoOn =
    (sh : Shape) (x : Span) (st : Statement) (k : RowWork) (f : FoundAt) (c : ℕ) → k.place ≡ Some f → IsChanged x.ended f.start k.row c → suc (length k.starts) < MOST_STARTS → RowStands sh x st k → RowStands sh x st (noted k c)

abbrev pub StartsEnd : Type 0
StartsEnd =
    (sh : Shape) (x : Span) (st : Statement) (k : RowWork) (f : FoundAt) (c : ℕ) → k.place ≡ Some f → IsChanged x.ended f.start k.row c → suc (length k.starts) ≡ MOST_STARTS → RowStands sh x st k → IsAgain x st (k.starts ++ c ∷ [])
