-- What an event leaves of another session: its scan is marked by what was released.
use Rattle.std.proofs.Common.{◌≡◌, ℕ, List, Option, Some, None, refl, sym, ◌∙◌, ap, true≢false}
use Rattle.std.specs.Prelude.{option_map, IsSome}
use Rattle.seg_words.specs.Types.{Shape}
use Rattle.redo_model.specs.Records.{Record}
use Rattle.history_laws.specs.Working as working
use Rattle.history_laws.specs.Working.{Scanning, marked_since}
use Rattle.session_model.specs.Doings.{Doing, Working, doing_since}
use Rattle.session_model.specs.Sessions.{Session, session_since}
use Rattle.scan_table.specs.declared.scan.OpenScan.{OpenScan}
use Rattle.scan_table.specs.Sessions.{scan_of}
use Rattle.session_core.specs.declared.session.Doing.{Doing as Told}
use Rattle.session_core.specs.declared.session.Doing.TheVariants as told
use Rattle.session_core.specs.Marks.{marked_over}
use Rattle.session_core.specs.Scanned.{IsShaped, doing_at}
use Rattle.session_core.proofs.Marking.{scan_marked}
use Rattle.session_step.specs.declared.session.Session.{Session as Seated}
use Rattle.session_step.specs.Stages.{session_at, IsHeld}

-- ---- its place

abbrev marked : ℕ → List Record → Option OpenScan → Option OpenScan
marked n R p = option_map (marked_over n R) p

pub shaped_on : (sh : Shape) (n : ℕ) (R : List Record) (p : Option OpenScan) → IsShaped sh p → IsShaped sh (marked n R p)
shaped_on sh n R None h = tt
shaped_on sh n R (Some s) h = h

some_on : (n : ℕ) (R : List Record) (p : Option OpenScan) → IsSome p → IsSome (marked n R p)
some_on n R None h = h
some_on n R (Some s) h = h

none_on : (n : ℕ) (R : List Record) (p : Option OpenScan) → p ≡ None → marked n R p ≡ None
none_on n R p e = ap (λ (z : Option OpenScan). marked n R z) e

pub held_on : (n : ℕ) (R : List Record) (p : Option OpenScan) (d : Told) → IsHeld p d → IsHeld (marked n R p) d
held_on n R p told.Waiting h = none_on n R p h
held_on n R p (told.Inserting o) h = none_on n R p h
held_on n R p (told.TakingBack t) h = none_on n R p h
held_on n R p (told.OnRow w) h = none_on n R p h
held_on n R p told.Scanning h = some_on n R p h
held_on n R p (told.Repairing w) h = none_on n R p h
held_on n R p (told.Shrinking w) h = none_on n R p h
held_on n R p (told.Lowering w) h = none_on n R p h

-- ---- the session

scanning_on : (sh : Shape) (n : ℕ) (R : List Record) (p : Option OpenScan) → IsShaped sh p → IsSome p → doing_at (marked n R p) told.Scanning ≡ doing_since sh n R (doing_at p told.Scanning)
scanning_on sh n R None shaped some = absurd (true≢false (sym some))
scanning_on sh n R (Some s) shaped some = ap (λ (z : working.OpenScan). Working (Scanning z)) (scan_marked n R s ∙ ap (λ (z : Shape). marked_since z n R (scan_of s)) shaped)

doing_on : (sh : Shape) (n : ℕ) (R : List Record) (p : Option OpenScan) (d : Told) → IsShaped sh p → IsHeld p d → doing_at (marked n R p) d ≡ doing_since sh n R (doing_at p d)
doing_on sh n R p told.Waiting shaped h = refl
doing_on sh n R p (told.Inserting o) shaped h = refl
doing_on sh n R p (told.TakingBack t) shaped h = refl
doing_on sh n R p (told.OnRow w) shaped h = refl
doing_on sh n R p told.Scanning shaped h = scanning_on sh n R p shaped h
doing_on sh n R p (told.Repairing w) shaped h = refl
doing_on sh n R p (told.Shrinking w) shaped h = refl
doing_on sh n R p (told.Lowering w) shaped h = refl

pub seen_on : (sh : Shape) (n : ℕ) (R : List Record) (p : Option OpenScan) (t : Seated) → IsShaped sh p → IsHeld p t.doing → session_at (marked n R p) t ≡ session_since sh n R (session_at p t)
seen_on sh n R p t shaped h = ap with_doing (doing_on sh n R p t.doing shaped h)
  where
    with_doing : Doing → Session
    with_doing d = record { told = t.told; begins = t.begins; doing = d }
