-- The tests of a statement as it begins, as one function of the records and the history before it: the first one that it fails is
-- its refusal.
use Rattle.std.specs.Prelude.{◌≡◌, ℕ, cond, ◌&&◌, leb, List, length, Option, Some, None}
use Rattle.seg_words.specs.Types.{Shape, Full, Fs4, class_code, MOST_TABLES}
use Rattle.redo_model.specs.Records.{Record}
use Rattle.redo_model.specs.Model.{table_count, table_named, has_movement}
use Rattle.redo_laws.specs.Among.{is_in}
use Rattle.redo_laws.specs.Scan.{scan_list}
use Rattle.session_laws.specs.Sessions.{own_of}
use Rattle.script_text.specs.declared.statement.Statement.{Statement}
use Rattle.script_text.specs.declared.statement.Statement.TheVariants as asked
use Rattle.script_text.specs.declared.statement.Target.{Target}
use Rattle.script_text.specs.declared.statement.Target.TheVariants.{Label, Number}
use Rattle.history_text.specs.declared.refusal.Refusal.{Refusal}
use Rattle.history_text.specs.declared.refusal.Refusal.TheVariants as why
use Rattle.history_model.specs.declared.limit.TheConstants.{NEW_WORK_RECORDS}
use Rattle.history_model.specs.History.{bound}
use Rattle.history_model.specs.Spans.{Span, table_asked, target_asked}
use Rattle.history_model.specs.Causes.{IsShrunkBy}
use Rattle.history_model.specs.Passing.{FirstPass}
use Rattle.history_laws.specs.Refusals.{IsRefusedSo}

abbrev pub first_of : Option Refusal → Option Refusal → Option Refusal
first_of None y = y
first_of (Some x) y = Some x

-- ---- by the table of its name, where there is one

abbrev pub absent : Option ℕ → Option Refusal
absent None = Some why.NoTable
absent (Some o) = None

abbrev pub test_table : List Record → Option (List ℕ) → Option Refusal
test_table B None = None
test_table B (Some name) = absent (table_named B name)

abbrev pub taken : Option ℕ → Option Refusal
taken None = None
taken (Some o) = Some why.TableExists

abbrev pub test_name : List Record → Statement → Option Refusal
test_name B (asked.Table name pctfree) = taken (table_named B name)
test_name B st = None

abbrev pub too_many : Option ℕ → ℕ → Option Refusal
too_many None n = cond (leb MOST_TABLES n) (Some why.TooManyTables) None
too_many (Some o) n = None

abbrev pub test_count : List Record → Statement → Option Refusal
test_count B (asked.Table name pctfree) = too_many (table_named B name) (table_count B)
test_count B st = None

abbrev pub unmoved : List Record → Option ℕ → Option Refusal
unmoved B None = None
unmoved B (Some o) = cond (has_movement B o) None (Some why.MovementOff)

abbrev pub test_movement : List Record → Statement → Option Refusal
test_movement B (asked.Shrink name compact) = unmoved B (table_named B name)
test_movement B st = None

abbrev pub misplaced : Shape → List Record → ℕ → Option ℕ → Option Refusal
misplaced sh B b None = None
misplaced sh B b (Some o) = cond (is_in b (scan_list sh B o)) None (Some (why.NotDataBlock b))

abbrev pub test_block : Shape → List Record → Statement → Option Refusal
test_block sh B (asked.Fix name block value) = misplaced sh B block (table_named B name)
test_block sh B st = None

-- ---- by its session's transaction, and another session's shrink of its table, if there is one

abbrev pub opened : Option ℕ → Option Refusal
opened None = None
opened (Some t) = Some why.TransactionOpen

abbrev pub test_own : Option ℕ → Statement → Option Refusal
test_own own (asked.Table name pctfree) = opened own
test_own own (asked.Movement name on) = opened own
test_own own (asked.Shrink name compact) = opened own
test_own own st = None

abbrev pub shrunk : Option ℕ → Option Refusal
shrunk None = None
shrunk (Some v) = Some (why.ShrinkBusy v)

abbrev pub test_busy : Option ℕ → Statement → Option Refusal
test_busy busy (asked.Movement name on) = shrunk busy
test_busy busy (asked.Shrink name compact) = shrunk busy
test_busy busy st = None

-- ---- by the log, and by what it states

abbrev pub full_log : ℕ → Option Refusal
full_log n = cond (leb NEW_WORK_RECORDS n) (Some why.LogFull) None

abbrev pub test_log : ℕ → Statement → Option Refusal
test_log n asked.Commit = None
test_log n asked.Rollback = None
test_log n (asked.Scan name) = None
test_log n (asked.Usage name) = None
test_log n asked.Checkpoint = None
test_log n st = full_log n

abbrev pub bad_value : Option ℕ → Option Refusal
bad_value None = None
bad_value (Some v) = cond (leb (class_code Full) v && leb v (class_code Fs4)) None (Some (why.BadValue v))

abbrev pub test_value : Statement → Option Refusal
test_value (asked.Fix name block value) = bad_value value
test_value st = None

abbrev pub unbound : List ℕ → Option ℕ → Option Refusal
unbound l None = Some (why.Unbound l)
unbound l (Some n) = None

abbrev pub test_label : Span → Option Target → Option Refusal
test_label x None = None
test_label x (Some (Label l)) = unbound l (bound x.scripts x.past l)
test_label x (Some (Number n)) = None

-- ---- all of them

abbrev pub first_cause : Shape → Span → Option ℕ → Statement → Option Refusal
first_cause sh x busy st =
    first_of (test_table x.begun (table_asked st))
    (first_of (test_name x.begun st)
    (first_of (test_count x.begun st)
    (first_of (test_movement x.begun st)
    (first_of (test_own (own_of x.begun x.session) st)
    (first_of (test_busy busy st)
    (first_of (test_log (length x.begun) st)
    (first_of (test_block sh x.begun st)
    (first_of (test_value st)
    (first_of (test_label x (target_asked st)) None)))))))))

-- the other session that shrinks the table, or none does
abbrev pub IsShrunk : Span → List ℕ → Option ℕ → Type 0
IsShrunk x name None = (v : ℕ) → IsShrunkBy x name v → ⊥
IsShrunk x name (Some v) = IsShrunkBy x name v

abbrev pub AsksBusy : Span → Statement → Option ℕ → Type 0
AsksBusy x (asked.Movement name on) busy = IsShrunk x name busy
AsksBusy x (asked.Shrink name compact) busy = IsShrunk x name busy
AsksBusy x st busy = Unit {0}

-- where it fails none it goes on; else it is refused, as it began
abbrev pub FirstTells : Shape → Span → Statement → Option Refusal → Type 0
FirstTells sh x st None = FirstPass sh x st
FirstTells sh x st (Some y) = IsRefusedSo sh x st y

abbrev pub FirstCausesTell : Type 0
FirstCausesTell = (sh : Shape) (x : Span) (busy : Option ℕ) (st : Statement) → AsksBusy x st busy → x.ended ≡ x.begun → FirstTells sh x st (first_cause sh x busy st)
