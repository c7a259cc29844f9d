-- What is known of a transaction whose entry was taken by a later one.
use Rattle.std.specs.Prelude.{◌≡◌, ◌⊎◌, ℕ, ◌≤◌, true, List, Some}
use Rattle.seg_words.specs.Types.{Shape}
use Rattle.redo_model.specs.Records.{Record}
use Rattle.redo_model.specs.Model.{has_ended, commit_number, has_rolled_back, is_forgotten, control_number, AreAllowed}

-- it has ended, by a commit or a rollback, and its commit number is at most the control number
pub record HasPassed (R : List Record) (t : ℕ) : Type 0 where
  pub ended : has_ended R t ≡ true
  pub fate : ((c : ℕ) × (commit_number R t ≡ Some c)) ⊎ (has_rolled_back R t ≡ true)
  pub low : (c : ℕ) → commit_number R t ≡ Some c → c ≤ control_number R

abbrev pub ForgottenHavePassed : Type 0
ForgottenHavePassed = (sh : Shape) (R : List Record) (t : ℕ) → AreAllowed sh R → is_forgotten R t ≡ true → HasPassed R t
