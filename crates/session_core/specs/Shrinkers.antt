-- Which other session shrinks a table as a statement begins. This engine's own.
use Rattle.std.specs.Prelude.{◌≡◌, ℕ, cond, eqb, List, [], ◌∷◌, Option, Some, None}
use Rattle.redo_model.specs.Model.{table_named}
use Rattle.history_model.specs.Spans.{Span}
use Rattle.session_core.specs.declared.session.OpenShrink.{OpenShrink}
use Rattle.session_core.specs.Starting.{IsBusyBy}

-- the session of the first of these shrinks that is of table o
abbrev pub shrinker_of : List OpenShrink → ℕ → Option ℕ
shrinker_of [] o = None
shrinker_of (k ∷ ks) o = cond (eqb k.obj o) (Some k.who) (shrinker_of ks o)

-- they are the shrinks that are under way: of each table that is named, the list tells the session that shrinks it, or that none does
abbrev pub AreShrunk : Span → List OpenShrink → Type 0
AreShrunk x ks = (name : List ℕ) (o : ℕ) → table_named x.ended name ≡ Some o → IsBusyBy x name (shrinker_of ks o)
