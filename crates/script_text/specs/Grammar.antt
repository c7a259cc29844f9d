-- The grammar of a script, line by line. This engine's own.
use Rattle.std.specs.Prelude.{ℕ, ◌+◌, Bool, true, false, not, ◌&&◌, ◌||◌, ◌==◌, if◌then◌else◌, List, [], ◌∷◌, ◌++◌, Option, Some, None, Result, Ok, Err, bytes_eq}
use Rattle.std.specs.Str.Lines.{lines}
use Rattle.seg_words.specs.Types.{list_all, list_any, MOST_SESSIONS}
use Rattle.script_text.specs.OwnTypes.{Statement, Form, Session, Schedule, Forms, Draft, Why, BadByte, SessionOrder, NotAStatement, DuplicateLabel, ScriptFault}
use Rattle.script_text.specs.declared.why.ScriptFault.TheVariants.{BadLine}
use Rattle.script_text.specs.Pieces.{cut, words, number_of, is_text_byte}
use Rattle.script_text.specs.Forms.{form_of, is_open, is_ready}
use Rattle.script_text.specs.Rows.{row, ◌>>=◌}
use Rattle.script_text.specs.Schedule.{items_of}
use Rattle.script_text.specs.Script.{Script}
use Rattle.script_text.specs.declared.statement.Statement.TheVariants as asks

-- ---- what was read so far
abbrev pub nothing_read : Draft
nothing_read = record { count = 0; closed = []; current = []; labels = []; schedule = [] }

-- the sessions before the next one
abbrev pub closed_of : Draft → List (List Statement)
closed_of draft = if draft.count == 0 then draft.closed else draft.closed ++ draft.current ∷ []

abbrev pub script_of : Draft → Script
script_of draft = record { sessions = closed_of draft; schedule = draft.schedule }

-- ---- lines
-- empty lines and those that begin with `--` are passed over, whatever bytes stand in them
abbrev pub is_passed_over : List ℕ → Bool
is_passed_over [] = true
is_passed_over (a ∷ []) = false
is_passed_over (a ∷ b ∷ bs) = a == 45 && b == 45

abbrev pub is_session : Option Form → Bool
is_session (Some Session) = true
is_session form = false

abbrev pub is_schedule : Option Form → Bool
is_schedule (Some Schedule) = true
is_schedule form = false

abbrev pub is_empty : {A : Type 0} → List A → Bool
is_empty [] = true
is_empty (x ∷ xs) = false

-- the first line is one of a session, and only lines of the schedule follow one
abbrev pub is_out_of_order : Draft → Option Form → Bool
is_out_of_order draft form =
    if draft.count == 0 then not (is_session form) else not (is_empty draft.schedule) && not (is_schedule form)

abbrev pub is_just : Option ℕ → ℕ → Bool
is_just None n = false
is_just (Some m) n = m == n

-- a session without a statement yet
abbrev pub next_session : Draft → Draft
next_session draft = record draft { count = draft.count + 1; closed = closed_of draft; current = [] }

-- `session N`: the next of the numbers 1 to 64
abbrev pub session_of : Forms → Draft → Option (List ℕ) → Result Draft Why
session_of forms draft None = Err SessionOrder
session_of forms draft (Some digits) =
    if is_just (number_of MOST_SESSIONS digits) (draft.count + 1) then (if draft.count == 0 || forms.sessions then Ok (next_session draft) else Err NotAStatement)
    else Err SessionOrder

-- `schedule I ..`
abbrev pub schedule_of : Forms → Draft → Option (List ℕ) → Result Draft Why
schedule_of forms draft None = Err NotAStatement
schedule_of forms draft (Some items) =
    if forms.schedule then (items_of forms draft.schedule draft.count (words items) >>= λ schedule. Ok (record draft { schedule = schedule }))
    else Err NotAStatement

-- a label is inserted once in a script
abbrev pub bound : List (List ℕ) → Statement → Result (List (List ℕ)) Why
bound labels (asks.Insert table label text) = if list_any (bytes_eq label) labels then Err DuplicateLabel else Ok (labels ++ label ∷ [])
bound labels statement = Ok labels

-- the statement goes to the present session
abbrev pub added : Draft → Statement → Result Draft Why
added draft statement = bound draft.labels statement >>= λ labels. Ok (record draft { current = draft.current ++ statement ∷ []; labels = labels })

-- where it is one yet
abbrev pub joined : Forms → Draft → Statement → Result Draft Why
joined forms draft statement = if is_ready forms statement then added draft statement else Err NotAStatement

-- a line of another form
abbrev pub rowed : Forms → Draft → Form → Option (List ℕ) → Result Draft Why
rowed forms draft form rest = if is_open forms form then (row form rest >>= joined forms draft) else Err NotAStatement

abbrev pub formed : Forms → Draft → Option Form → Option (List ℕ) → Result Draft Why
formed forms draft None rest = Err NotAStatement
formed forms draft (Some Session) rest = session_of forms draft rest
formed forms draft (Some Schedule) rest = schedule_of forms draft rest
formed forms draft (Some form) rest = rowed forms draft form rest

abbrev pub worded : Forms → Draft → Option Form → Option (List ℕ) → Result Draft Why
worded forms draft form rest = if is_out_of_order draft form then Err SessionOrder else formed forms draft form rest

-- what was read with one line more, or why that is refused
unfoldable pub line_of : Forms → Draft → List ℕ → Result Draft Why
line_of forms draft line =
    if is_passed_over line then Ok draft
    else (if list_all is_text_byte line then worded forms draft (form_of (cut 32 line).0) (cut 32 line).1 else Err BadByte)

-- ---- scripts
abbrev pub at_line : {A : Type 0} → ℕ → Result A Why → Result A ScriptFault
at_line n (Ok a) = Ok a
at_line n (Err why) = Err (BadLine n why)

abbrev pub goes_on : {A B : Type 0} → Result A ScriptFault → (A → Result B ScriptFault) → Result B ScriptFault
goes_on (Ok a) f = f a
goes_on (Err fault) f = Err fault

-- the lines that follow the first n, or the first bad one
abbrev pub read_lines : Forms → Draft → ℕ → List (List ℕ) → Result Draft ScriptFault
read_lines forms draft n [] = Ok draft
read_lines forms draft n (line ∷ rest) = goes_on (at_line (n + 1) (line_of forms draft line)) (λ now. read_lines forms now (n + 1) rest)

-- what the bytes of a script spell, or its first bad line with its cause; a line is ended by LF, the last LF may be
-- missing, and a CR before an LF is dropped
abbrev pub scripts_of : Forms → List ℕ → Result Script ScriptFault
scripts_of forms text = goes_on (read_lines forms nothing_read 0 (lines text)) (λ draft. Ok (script_of draft))
