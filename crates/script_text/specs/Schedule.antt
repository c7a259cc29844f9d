-- The items of a schedule line. This engine's own.
use Rattle.std.specs.Prelude.{ℕ, Bool, ◌&&◌, not, if◌then◌else◌, List, [], ◌∷◌, ◌++◌, Option, Some, None, is_some, Result, Ok, Err, ok_or, codes, bytes_eq}
use Rattle.seg_words.specs.Types.{list_all, list_any}
use Rattle.script_text.specs.OwnTypes.{MOST_TURNS, Turns, Forms, Why, NotAStatement, BadNumber, ScheduleSession}
use Rattle.script_text.specs.Pieces.{cut, is_number, number_of, ordinal_of}
use Rattle.script_text.specs.Rows.{◌>>=◌}

-- how often: once, or as the number behind the `x` says
abbrev pub times_of : Option (List ℕ) → Option ℕ
times_of None = Some 1
times_of (Some digits) = ordinal_of MOST_TURNS digits

-- `N` or `NxC`, whatever the number N
abbrev pub is_item : List ℕ → Bool
is_item item = is_number (cut 120 item).0 && is_some (times_of (cut 120 item).1)

-- an item for 0
abbrev pub is_flush : List ℕ → Bool
is_flush item = bytes_eq (cut 120 item).0 (codes "0")

abbrev pub turns_with : Option ℕ → Option ℕ → Option Turns
turns_with (Some who) (Some times) = Some (record { who = who; times = times })
turns_with who times = None

-- an item for 0 or for one of so many sessions
abbrev pub turns_in : ℕ → List ℕ → Option Turns
turns_in sessions item = turns_with (number_of sessions (cut 120 item).0) (times_of (cut 120 item).1)

-- a schedule with the turns of the items
abbrev pub with_turns : List Turns → ℕ → List (List ℕ) → Result (List Turns) Why
with_turns schedule sessions [] = Ok schedule
with_turns schedule sessions (item ∷ items) = ok_or (turns_in sessions item) ScheduleSession >>= λ turns. with_turns (schedule ++ turns ∷ []) sessions items

-- a schedule with what the items of a line add
abbrev pub items_of : Forms → List Turns → ℕ → List (List ℕ) → Result (List Turns) Why
items_of forms schedule sessions items =
    if not forms.flushes && list_any is_flush items then Err NotAStatement
    else (if list_all is_item items then with_turns schedule sessions items else Err BadNumber)
