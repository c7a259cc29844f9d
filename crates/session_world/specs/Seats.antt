-- The sessions of a run in their seats.
use Rattle.std.specs.Prelude.{◌≡◌, ◌≢◌, ℕ, ◌-◌, ◌≤◌, cond, eqb, List, [], ◌∷◌, ◌++◌, slice_get, Option, Some, None}
use Rattle.session_model.specs.Sessions.{Session}
use Rattle.scan_table.specs.Places.{place}
use Rattle.scan_table.specs.declared.scan.OpenScan.{OpenScan}
use Rattle.session_core.specs.declared.session.Doing.{Doing}
use Rattle.session_core.specs.declared.session.Doing.TheVariants as told
use Rattle.session_core.specs.declared.session.OpenShrink.{OpenShrink}
use Rattle.session_core.specs.Shrinkers.{shrinker_of}
use Rattle.session_step.specs.declared.session.Session.{Session as Told}
use Rattle.session_step.specs.Stages.{session_at}
use Rattle.session_step.specs.Turning.{shrunk_in}
use Rattle.session_world.specs.declared.seats.Seat.{Seat}

abbrev pub unstarted : Told
unstarted = record { told = 0; begins = 0; doing = told.Waiting; own = None }

abbrev pub told_in : Option Seat → Told
told_in None = unstarted
told_in (Some s) = s.session

-- session w, which hasn't started where it has no seat; sessions are numbered from 1
abbrev pub told_at : List Seat → ℕ → Told
told_at seats w = told_in (slice_get seats (w - 1))

-- the same with the open scan in its place
abbrev pub seen_in : List Seat → List (Option OpenScan) → ℕ → Session
seen_in seats scans w = session_at (place w scans) (told_at seats w)

-- ---- what they shrink

-- with the table that session v shrinks, if it does
abbrev pub with_table : ℕ → Option ℕ → List OpenShrink → List OpenShrink
with_table v None ks = ks
with_table v (Some o) ks = ks ++ record { who = v; obj = o } ∷ []

-- but for session who
abbrev pub with_shrink : ℕ → ℕ → Doing → List OpenShrink → List OpenShrink
with_shrink v who d ks = cond (eqb v who) ks (with_table v (shrunk_in d) ks)

-- of the first n sessions but session who, the one that shrinks table o; none of them does where it is none
abbrev pub IsShrinkerIn : List Seat → ℕ → ℕ → ℕ → Option ℕ → Type 0
IsShrinkerIn seats who n o None = (v : ℕ) → 1 ≤ v → v ≤ n → v ≢ who → shrunk_in (told_at seats v).doing ≡ Some o → ⊥
IsShrinkerIn seats who n o (Some v) = (1 ≤ v) × (v ≤ n) × (v ≢ who) × (shrunk_in (told_at seats v).doing ≡ Some o)

-- these shrinks tell of each table which of them shrinks it
pub record AreShrinks (seats : List Seat) (who n : ℕ) (ks : List OpenShrink) : Type 0 where
  pub tells : (o : ℕ) → IsShrinkerIn seats who n o (shrinker_of ks o)
