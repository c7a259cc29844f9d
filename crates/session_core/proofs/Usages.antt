-- What a usage tells.
use Rattle.std.proofs.Common.{◌≡◌, ℕ, List, Option, Some, None, refl, sym, ◌∙◌}
use Rattle.seg_words.specs.Types.{Shape}
use Rattle.redo_model.specs.Model.{table_named, AreAllowed}
use Rattle.script_text.specs.declared.statement.Statement.TheVariants as asked
use Rattle.session_laws.specs.Sessions.{own_of}
use Rattle.history_text.specs.declared.outcome.Outcome.TheVariants as outcome
use Rattle.history_text.specs.declared.refusal.Refusal.TheVariants as why
use Rattle.history_model.specs.declared.history.Kept.TheVariants as kept
use Rattle.history_model.specs.Spans.{Span}
use Rattle.history_model.specs.Order.{rank}
use Rattle.history_model.specs.Passing.{FirstPass}
use Rattle.history_laws.specs.Working.{later}
use Rattle.history_laws.proofs.Owned.{none_some}
use Rattle.history_laws.proofs.Passes.{accepted_passes}
use Rattle.space_usage.specs.Counting.{IsUsage}
use Rattle.history_text.specs.declared.outcome.Usage.{Usage}
use Rattle.count_laws.proofs.CountsLaw.{usages_mean}
use Rattle.session_core.specs.Acting.{IsStarting, Turns}
use Rattle.session_core.specs.Starting.{IsRefusedFirst}
use Rattle.session_core.specs.Counted.{told_over}
use Rattle.session_core.proofs.ScanEvents.{none_before}

-- ---- the tests of its beginning

usage_passes : (sh : Shape) (x : Span) (name : List ℕ) (o : ℕ) → table_named x.begun name ≡ Some o → FirstPass sh x (asked.Usage name)
usage_passes sh x name o t = record {
  table = λ h. none_some o ⊥ (sym h ∙ t);
  new_name = λ h. h;
  few_tables = λ h. h;
  movement = λ h. h;
  no_transaction = λ h. h;
  unshrunk = λ v h. h;
  log = λ h. h;
  data_block = λ b h. h;
  value = λ v h. h;
  label = λ l h. none_some _ _ h.0;
}

pub no_usage_table : (sh : Shape) (x : Span) (name : List ℕ) → table_named x.begun name ≡ None → IsRefusedFirst sh x (asked.Usage name) why.NoTable
no_usage_table sh x name e = record { first = refl; cause = e; before = λ z l h. none_before (rank z) l }

pub usage_turns : (sh : Shape) (x : Span) (name : List ℕ) (o : ℕ) (own : Option ℕ) (u : Usage) → AreAllowed sh x.ended → IsStarting x → table_named x.begun name ≡ Some o → own_of x.ended x.session ≡ own → IsUsage sh x.ended o u
    → Turns sh x (Some (asked.Usage name)) x.ended (told_over name own u)
usage_turns sh x name o own u a st t e h = record {
  turns = record {
    means = (refl, usages_mean sh x name o u a t st.at_once h);
    passes = accepted_passes sh (later x x.ended) (asked.Usage name) (outcome.Usage name u) kept.Nothing refl (usage_passes sh x name o t);
    whole = st.whole;
    closed = λ z. none_some _ _ (sym z);
  };
  own = e;
  kept = tt;
}
