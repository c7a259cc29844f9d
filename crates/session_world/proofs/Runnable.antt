-- What a script that was read says of its statements.
use Rattle.std.proofs.Common.{◌≡◌, ℕ, zero, suc, ◌-◌, ◌<◌, ◌≤◌, Bool, true, false, cond, List, [], ◌∷◌, length, get_or, slice_get, Some, sym, ◌∙◌, ap, subst, arith}
use Rattle.std.proofs.lemmas.Option.{same_Some, none-some, slice_get-get_or}
use Rattle.seg_words.proofs.Lemmas.{AllByRecursion}
use Rattle.seg_words.specs.Types.{MOST_SESSIONS}
use Rattle.script_text.specs.declared.statement.Statement.{Statement}
use Rattle.script_text.specs.declared.statement.Statement.TheVariants as asked
use Rattle.session_step.specs.declared.forms.TheConstants.{BUILT_FORMS}
use Rattle.script_text.specs.Forms.{is_open, is_ready}
use Rattle.script_text.specs.Script.{Script}
use Rattle.script_text.specs.Spelled.{IsStatement, IsScript, form_of}
use Rattle.history_model.specs.History.{script_of}
use Rattle.session_step.specs.Turning.{IsBuilt}
use Rattle.session_world.specs.Scripts.{AreRunnable, AreScripts}

all_at : {A : Type 0} (P : A → Type 0) (xs : List A) (i : ℕ) (x : A) → AllByRecursion P xs → slice_get xs i ≡ Some x → P x
all_at P [] i x h e = absurd (none-some x e)
all_at P (y ∷ ys) zero x h e = subst P (same_Some y x e) h.0
all_at P (y ∷ ys) (suc i) x h e = all_at P ys i x h.1 e

few_by : (b : Bool) (n : ℕ) → n ≤ cond b MOST_SESSIONS 1 → n ≤ MOST_SESSIONS
few_by true n h = h
few_by false n h = omega (arith, h)

open_built : (st : Statement) → is_open BUILT_FORMS (form_of st) ≡ true → is_ready BUILT_FORMS st ≡ true → IsBuilt st
open_built (asked.Table name pctfree) e r = tt
open_built (asked.Movement table on) e r = tt
open_built (asked.Insert table label text) e r = tt
open_built (asked.Update table target text) e r = tt
open_built (asked.Delete table target) e r = tt
open_built asked.Commit e r = tt
open_built asked.Rollback e r = tt
open_built (asked.Scan table) e r = tt
open_built (asked.Shrink table compact) e r = tt
open_built (asked.Usage table) e r = tt
open_built (asked.Fix table block value) e r = tt
open_built (asked.Repair table) e r = tt
open_built asked.Checkpoint e r = cc e

open_ready : (st : Statement) → IsStatement BUILT_FORMS st → IsBuilt st
open_ready st h = open_built st h.built h.ready

script_runs : (script : List Statement) → AllByRecursion (IsStatement BUILT_FORMS) script → AreRunnable script
script_runs script h = record {
  spelled = λ i st e. (all_at (IsStatement BUILT_FORMS) script i st h e).spelled;
  built = λ i st e. open_ready st (all_at (IsStatement BUILT_FORMS) script i st h e);
}

pub scripts_run : (script : Script) → IsScript BUILT_FORMS script → AreScripts script.sessions
scripts_run script h = record {
  few = few_by BUILT_FORMS.sessions (length script.sessions) h.few;
  each = λ i s e. script_runs s (all_at (AllByRecursion (IsStatement BUILT_FORMS)) script.sessions i s h.statements e);
}

-- the script of a session stands in its place
script_in : (scripts : List (List Statement)) (i : ℕ) (script : List Statement) → slice_get scripts i ≡ Some script → script_of scripts (suc i) ≡ script
script_in [] i script e = absurd (none-some script e)
script_in (s ∷ ss) zero script e = same_Some s script e
script_in (s ∷ ss) (suc i) script e = script_in ss i script e

pub script_at : (scripts : List (List Statement)) (w : ℕ) (script : List Statement) → 1 ≤ w → slice_get scripts (w - 1) ≡ Some script → script_of scripts w ≡ script
script_at scripts w script l e =
    let next : suc (w - 1) ≡ w = omega (arith, l) in
    subst (λ (n : ℕ). script_of scripts n ≡ script) next (script_in scripts (w - 1) script e)

-- as it is read
pub got_script : (scripts : List (List Statement)) (i : ℕ) (script : List Statement) → i < length scripts → script ≡ get_or scripts i script → slice_get scripts i ≡ Some script
got_script scripts i script l e = slice_get-get_or scripts i script l ∙ ap (λ (z : List Statement). Some z) (sym e)
