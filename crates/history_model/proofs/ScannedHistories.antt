-- A scan that is refused, and what it may not keep.
use Rattle.std.proofs.Common.{◌≡◌, ℕ, List, Some, refl, sym, subst, lit<, true≢false}
use Rattle.std.specs.Prelude.{slice_get}
use Rattle.redo_model.specs.Model.{table_named}
use Rattle.redo_model.specs.Worked.{small, three}
use Rattle.redo_laws.specs.Scan.{scan_list}
use Rattle.script_text.specs.declared.statement.Statement.TheVariants as asked
use Rattle.history_model.specs.declared.history.Kept.TheVariants as kept
use Rattle.history_model.specs.Worked.{name_t}
use Rattle.history_model.specs.WorkedScan.{IsRefusedBy, ScansAreShown}
use Rattle.history_model.proofs.Targets.{same_some}
use Rattle.history_model.proofs.OneHistory.{none_some}

too_old : IsRefusedBy (kept.Read 0)
too_old = record {
  keeps = refl;
  cause = record {
    obj = 1;
    block = 43;
    next = record { name = name_t; statement = refl; table = refl; block = refl };
    lost = record { needed = record { slot = 1; there = lit< tt; needed = (1, lit< tt, refl) }; reused = refl };
  };
  at_once = λ e. absurd (true≢false (sym e));
  so_far = record { own = refl; rows = refl; begins = refl };
}

no_number : (n : ℕ) → kept.Nothing ≡ kept.Read n → ⊥
no_number n e = cc

-- its list has one block
no_second : IsRefusedBy (kept.Read 1) → ⊥
no_second m =
    let n = m.cause.next in
    let named : name_t ≡ n.name = same_name name_t n.name n.statement in
    let table : Some 1 ≡ Some m.cause.obj = subst (λ z. table_named three z ≡ Some m.cause.obj) (sym named) n.table in
    none_some m.cause.block (subst (λ o. slice_get (scan_list small three o) 1 ≡ Some m.cause.block) (sym (same_some 1 m.cause.obj table)) n.block)
  where
    same_name : (a b : List ℕ) → asked.Scan a ≡ asked.Scan b → a ≡ b
    same_name a b e = cc

pub scans_are_shown : ScansAreShown
scans_are_shown = record { too_old = too_old; nothing_kept = λ m. no_number 0 m.keeps; past_its_list = no_second }
