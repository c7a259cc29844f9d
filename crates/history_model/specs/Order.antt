-- In which order the causes of refusals are tested, and which of them an outcome passes over: a refusal says that none before
-- it in the order applies, an accepted statement that none of those applies that are tested as it begins. This engine's own.
use Rattle.std.specs.Prelude.{ℕ, Bool, true, false, not, ◌&&◌, ltb}
use Rattle.history_text.specs.declared.outcome.Outcome.{Outcome}
use Rattle.history_text.specs.declared.outcome.Outcome.TheVariants as told
use Rattle.history_text.specs.declared.refusal.Refusal.{Refusal}
use Rattle.history_text.specs.declared.refusal.Refusal.TheVariants as why

-- the place in the order
abbrev pub rank : Refusal → ℕ
rank why.NoTable = 0
rank why.TableExists = 1
rank why.TooManyTables = 2
rank why.MovementOff = 3
rank why.TransactionOpen = 4
rank (why.ShrinkBusy v) = 5
rank why.LogFull = 6
rank (why.NotDataBlock b) = 7
rank (why.BadValue v) = 8
rank (why.Unbound l) = 9
rank (why.NoRow n) = 10
rank (why.Busy u) = 11
rank (why.Again cs) = 12
rank (why.NoSlot ts) = 13
rank (why.NoSpace need) = 14
rank (why.MaxExtents count) = 15
rank (why.UndoFull hs) = 16
rank (why.ObjectGone extent lowering) = 17
rank (why.TooOld a) = 18
rank (why.TooOldEntry u) = 19
rank (why.NeedsBlock len) = 20

-- these are tested as the statement begins
abbrev pub is_first_tested : Refusal → Bool
is_first_tested y = ltb (rank y) 10

-- these come only where they hold, not exactly there: they are no bar to one that comes after them in the order
abbrev pub is_no_bar : Refusal → Bool
is_no_bar (why.Again cs) = true
is_no_bar (why.TooOld a) = true
is_no_bar (why.TooOldEntry u) = true
is_no_bar _ = false

-- whether the row is there and free is looked at after the starts are counted
abbrev pub is_after_starts : Refusal → Bool
is_after_starts (why.NoRow n) = true
is_after_starts (why.Busy u) = true
is_after_starts _ = false

abbrev pub is_again : Refusal → Bool
is_again (why.Again cs) = true
is_again _ = false

-- where y applied, it would have come in place of this refusal
abbrev pub bars : Refusal → Refusal → Bool
bars y refusal = ltb (rank y) (rank refusal) && not (is_no_bar y) && not (is_again refusal && is_after_starts y)

-- the outcome says that y doesn't apply
abbrev pub passes_over : Outcome → Refusal → Bool
passes_over (told.Refused refusal) y = bars y refusal
passes_over _ y = is_first_tested y
