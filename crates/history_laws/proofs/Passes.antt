-- What passing over the first causes gives.
use Rattle.std.proofs.Common.{◌≡◌, ℕ, true, false, not, ◌&&◌, ltb, List, length, Some, refl, sym, ap, subst, le_refl, true≢false}
use Rattle.seg_words.proofs.Lemmas.{and_parts}
use Rattle.seg_words.specs.Types.{Shape}
use Rattle.redo_model.specs.Records.{Record}
use Rattle.redo_laws.proofs.lists.Prefixes.{prefix_longer}
use Rattle.redo_laws.specs.Since.{any_since}
use Rattle.redo_laws.proofs.lists.Since.{since_none}
use Rattle.session_laws.specs.Sessions.{own_of, own_rows, own_begins}
use Rattle.shrink_laws.specs.Grown.{lowers}
use Rattle.script_text.specs.declared.statement.Statement.{Statement}
use Rattle.script_text.specs.declared.statement.Statement.TheVariants as asked
use Rattle.script_text.specs.declared.statement.Target.TheVariants.{Label}
use Rattle.history_text.specs.declared.outcome.Outcome.TheVariants as told
use Rattle.history_text.specs.declared.refusal.Refusal.{Refusal}
use Rattle.history_text.specs.declared.refusal.Refusal.TheVariants as why
use Rattle.history_model.specs.declared.history.Kept.TheVariants as kept
use Rattle.history_model.specs.History.{Task}
use Rattle.history_model.specs.Spans.{Span}
use Rattle.history_model.specs.Order.{rank, is_first_tested, is_no_bar, is_after_starts, is_again}
use Rattle.history_model.specs.SoFar.{IsIdle, IsUnlowered, SoFar}
use Rattle.history_model.specs.Causes.{IsTableThere, IsTooManyTables, IsMovementOff, IsTransactionOpen, IsShrunkBy, IsShrinkBusy, IsLogFull, IsNotDataBlock, Cause}
use Rattle.history_model.specs.Passing.{FirstPass}
use Rattle.history_model.specs.Means.{Keeps, blocks_read}
use Rattle.history_model.proofs.Passing.{passes_first}
use Rattle.history_laws.specs.Working.{now_of, later}
use Rattle.history_laws.proofs.Owned.{none_some}
use Rattle.history_laws.specs.Passes.{FirstPassStays, FirstPassLater, AcceptedPasses, FirstIsRefused}

-- with other records at its end

there_before : (x : Span) (E : List Record) (st : Statement) → IsTableThere (later x E) st → IsTableThere x st
there_before x E (asked.Table name pctfree) h = h
there_before x E st h = absurd h

many_before : (x : Span) (E : List Record) (st : Statement) → IsTooManyTables (later x E) st → IsTooManyTables x st
many_before x E (asked.Table name pctfree) h = h
many_before x E st h = absurd h

movement_before : (x : Span) (E : List Record) (st : Statement) → IsMovementOff (later x E) st → IsMovementOff x st
movement_before x E (asked.Shrink name compact) h = h
movement_before x E st h = absurd h

open_before : (x : Span) (E : List Record) (st : Statement) → IsTransactionOpen (later x E) st → IsTransactionOpen x st
open_before x E (asked.Table name pctfree) h = h
open_before x E (asked.Movement name on) h = h
open_before x E (asked.Shrink name compact) h = h
open_before x E st h = absurd h

shrunk_before : (x : Span) (E : List Record) (name : List ℕ) (v : ℕ) → IsShrunkBy (later x E) name v → IsShrunkBy x name v
shrunk_before x E name v h = record { other = h.other; task = h.task; under = h.under; its_name = h.its_name; compact = h.compact; statement = h.statement; obj = h.obj; its_table = h.its_table; table = h.table }

busy_before : (x : Span) (E : List Record) (st : Statement) (v : ℕ) → IsShrinkBusy (later x E) st v → IsShrinkBusy x st v
busy_before x E (asked.Movement name on) v h = shrunk_before x E name v h
busy_before x E (asked.Shrink name compact) v h = shrunk_before x E name v h
busy_before x E st v h = absurd h

log_before : (x : Span) (E : List Record) (st : Statement) → IsLogFull (later x E) st → IsLogFull x st
log_before x E asked.Commit h = h
log_before x E asked.Rollback h = h
log_before x E (asked.Scan name) h = h
log_before x E (asked.Usage name) h = h
log_before x E asked.Checkpoint h = h
log_before x E st h = h

block_before : (sh : Shape) (x : Span) (E : List Record) (st : Statement) (b : ℕ) → IsNotDataBlock sh (later x E) st b → IsNotDataBlock sh x st b
block_before sh x E (asked.Fix name block value) b h = h
block_before sh x E st b h = absurd h

pub first_later : (sh : Shape) (x : Span) (E : List Record) (st : Statement) → FirstPass sh x st → FirstPass sh (later x E) st
first_later sh x E st f = record {
  table = f.table;
  new_name = λ h. f.new_name (there_before x E st h);
  few_tables = λ h. f.few_tables (many_before x E st h);
  movement = λ h. f.movement (movement_before x E st h);
  no_transaction = λ h. f.no_transaction (open_before x E st h);
  unshrunk = λ v h. f.unshrunk v (busy_before x E st v h);
  log = λ h. f.log (log_before x E st h);
  data_block = λ b h. f.data_block b (block_before sh x E st b h);
  value = f.value;
  label = f.label;
}

pub first_pass_later : FirstPassLater
first_pass_later sh x R st f = first_later sh x R st f

pub first_pass_stays : FirstPassStays
first_pass_stays sh scripts Q R w task st e l f =
    subst (λ (B : List Record). FirstPass sh (span scripts w task B R) st) (sym (prefix_longer Q R task.begins e l)) (first_later sh (now_of scripts Q w task) R st f)
  where
    span : List (List Statement) → ℕ → Task → List Record → List Record → Span
    span scripts w task B E = record { session = w; scripts = scripts; past = task.past; begun = B; ended = E }

pub accepted_passes : AcceptedPasses
accepted_passes sh x st (told.Refused refusal) k e f = absurd (true≢false e)
accepted_passes sh x st _ k e f = passes_first sh x st (blocks_read k) f

-- a refusal at the first event

first_keeps : (y : Refusal) → is_first_tested y ≡ true → Keeps y kept.Nothing
first_keeps (why.ObjectGone extent lowering) e = absurd (true≢false (sym e))
first_keeps (why.TooOld a) e = absurd (true≢false (sym e))
first_keeps (why.TooOldEntry u) e = absurd (true≢false (sym e))
first_keeps y e = refl

pub idle_at_once : (x : Span) → x.ended ≡ x.begun → IsIdle x
idle_at_once x e = record { own = ap (λ (R : List Record). own_of R x.session) e; rows = ap (λ (R : List Record). own_rows R x.session) e; begins = ap (λ (R : List Record). own_begins R x.session) e }

pub unlowered_at_once : (x : Span) (o : ℕ) → x.ended ≡ x.begun → IsUnlowered x o
unlowered_at_once x o e = subst (λ (R : List Record). any_since (lowers o) (length x.begun) R ≡ false) (sym e) (since_none (lowers o) x.begun (length x.begun) (le_refl (length x.begun)))

-- a rollback is refused for nothing
never_refused : (sh : Shape) (x : Span) (y : Refusal) → is_first_tested y ≡ true → Cause sh x asked.Rollback 0 y → ⊥
never_refused sh x why.NoTable e h = h
never_refused sh x why.TableExists e h = h
never_refused sh x why.TooManyTables e h = h
never_refused sh x why.MovementOff e h = h
never_refused sh x why.TransactionOpen e h = h
never_refused sh x (why.ShrinkBusy v) e h = h
never_refused sh x why.LogFull e h = h
never_refused sh x (why.NotDataBlock b) e h = h
never_refused sh x (why.BadValue v) e h = h
never_refused sh x (why.Unbound l) e h = none_some (Label l) ⊥ h.0
never_refused sh x y e h = true≢false (sym e)

so_far_at_once : (sh : Shape) (x : Span) (st : Statement) (y : Refusal) → is_first_tested y ≡ true → Cause sh x st 0 y → x.ended ≡ x.begun → SoFar x (Some st)
so_far_at_once sh x (asked.Insert name label text) y f c e = idle_at_once x e
so_far_at_once sh x (asked.Update name target text) y f c e = idle_at_once x e
so_far_at_once sh x (asked.Delete name target) y f c e = idle_at_once x e
so_far_at_once sh x asked.Rollback y f c e = absurd (never_refused sh x y f c)
so_far_at_once sh x (asked.Scan name) y f c e = idle_at_once x e
so_far_at_once sh x (asked.Shrink name compact) y f c e = record { idle = idle_at_once x e; unlowered = λ o t. unlowered_at_once x o e }
so_far_at_once sh x (asked.Repair name) y f c e = idle_at_once x e
so_far_at_once sh x st y f c e = e

pub first_is_refused : FirstIsRefused
first_is_refused sh x st y e same cause none = record {
  means = record { keeps = first_keeps y e; cause = cause; at_once = λ f. same; so_far = so_far_at_once sh x st y e cause same };
  passes = λ z b h. none z (and_parts (ltb (rank z) (rank y)) (not (is_no_bar z)) (and_parts (ltb (rank z) (rank y) && not (is_no_bar z)) (not (is_again y && is_after_starts z)) b).0).0 h;
}
