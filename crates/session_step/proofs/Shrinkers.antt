-- The table that a session shrinks.
use Rattle.std.proofs.Common.{◌≡◌, ℕ, Option, Some, None, ap}
use Rattle.session_model.specs.Doings.{ShrinksOn}
use Rattle.scan_table.specs.declared.scan.OpenScan.{OpenScan}
use Rattle.session_core.specs.declared.session.Doing.{Doing as Told}
use Rattle.session_core.specs.declared.session.Doing.TheVariants as told
use Rattle.session_core.specs.Scanned.{doing_at}
use Rattle.session_step.specs.Turning.{shrunk_in}

pub shrinks_told : (p : Option OpenScan) (d : Told) (o : ℕ) → ShrinksOn (doing_at p d) o → shrunk_in d ≡ Some o
shrinks_told p told.Waiting o h = absurd h
shrinks_told p (told.Inserting t) o h = absurd h
shrinks_told p (told.TakingBack t) o h = absurd h
shrinks_told p (told.OnRow w) o h = absurd h
shrinks_told p told.Scanning o h = absurd h
shrinks_told p (told.Repairing w) o h = absurd h
shrinks_told p (told.Shrinking w) o h = ap (λ (n : ℕ). Some n) h
shrinks_told p (told.Lowering w) o h = ap (λ (n : ℕ). Some n) h

some_same : (a b : ℕ) → ◌≡◌ {A = Option ℕ} (Some a) (Some b) → a ≡ b
some_same a b e = cc e

none_there : (b : ℕ) → ◌≡◌ {A = Option ℕ} None (Some b) → ⊥
none_there b e = absurd (cc e)

pub told_shrinks : (p : Option OpenScan) (d : Told) (o : ℕ) → shrunk_in d ≡ Some o → ShrinksOn (doing_at p d) o
told_shrinks p told.Waiting o e = none_there o e
told_shrinks p (told.Inserting t) o e = none_there o e
told_shrinks p (told.TakingBack t) o e = none_there o e
told_shrinks p (told.OnRow w) o e = none_there o e
told_shrinks p told.Scanning o e = none_there o e
told_shrinks p (told.Repairing w) o e = none_there o e
told_shrinks p (told.Shrinking w) o e = some_same w.shrink.obj o e
told_shrinks p (told.Lowering w) o e = some_same w.obj o e
