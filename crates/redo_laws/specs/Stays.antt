-- What a block gives at a commit number for a transaction, and what the transaction sees, stays in longer lists, whatever
-- others move, take back, clean, reuse or lower.
use Rattle.std.specs.Prelude.{◌≡◌, ◌≢◌, ℕ, ◌≤◌, List, ◌∷◌}
use Rattle.seg_words.specs.Types.{Shape, Writer, By, At}
use Rattle.redo_model.specs.Records.{Record}
use Rattle.redo_model.specs.Model.{Effect, effect_of, commit_count, view, row_at, AreAllowed}
use Rattle.redo_model.specs.Effects.{Formats, Adds, TakesBack}

abbrev pub IsNotBy : Writer → ℕ → Type 0
IsNotBy (By u) t = u ≢ t
IsNotBy (At c) t = Unit {0}

-- t changes nothing by it
abbrev pub IsNotOf : Effect → ℕ → Type 0
IsNotOf (Adds st) t = IsNotBy st.by t
IsNotOf (TakesBack k) t = k.txn ≢ t
IsNotOf _ t = Unit {0}

-- R is Q with records added of which each does only what P says
pub data Later (P : Effect → Type 0) (Q : List Record) : List Record → Type 0 where
  not_later : Later P Q Q
  one_later : {R : List Record} (r : Record) → Later P Q R → P (effect_of r) → Later P Q (r ∷ R)

-- t changes nothing by it, and it doesn't format block b again
abbrev pub IsQuiet : ℕ → ℕ → Effect → Type 0
IsQuiet t b e = IsNotOf e t × (e ≢ Formats b)

abbrev pub BlocksStay : Type 0
BlocksStay =
    (sh : Shape) (Q R : List Record) (b k s t : ℕ) → AreAllowed sh R → s ≤ commit_count Q → Later (IsQuiet t b) Q R
    → row_at R b k s t ≡ row_at Q b k s t

abbrev pub ViewsStay : Type 0
ViewsStay = (sh : Shape) (Q R : List Record) (o s t n : ℕ) → AreAllowed sh R → s ≤ commit_count Q → Later (λ e. IsNotOf e t) Q R → view R o s t n ≡ view Q o s t n
