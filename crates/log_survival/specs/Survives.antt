-- What was acknowledged survives each crash from then on.
use Rattle.std.specs.Prelude.{◌≡◌, ℕ, ◌≤◌, nat_le, if◌then◌else◌, List, [], ◌∷◌, length, take}
use Rattle.seg_words.specs.Types.{Shape}
use Rattle.disk_model.specs.Types.{Files, Meaning, Always}
use Rattle.log_frame.specs.Types.{IsLog}
use Rattle.log_survival.specs.declared.acknowledged.Acknowledged.{Acknowledged}

-- the groups that were acknowledged by a moment, of those that were, the newest first
abbrev pub needed_by : List Acknowledged → ℕ → ℕ
needed_by [] moment = 0
needed_by (a ∷ acknowledged) moment = if nat_le a.moment moment then a.groups else needed_by acknowledged moment

-- The image is a log of some of the groups, the first of them first, and has so many at least.
pub record HasGroups (shape : Shape) (groups : List (List ℕ)) (needed : ℕ) (image : Files) : Type 0 where
  pub count : ℕ
  pub within : count ≤ length groups
  pub enough : needed ≤ count
  pub log : IsLog shape (take count groups) image.log_bytes

-- at each moment since that one
abbrev pub Survives : {D : Type 0} → Meaning D → ℕ → Shape → List (List ℕ) → List Acknowledged → D → Type 0
Survives meaning since shape groups acknowledged disk = Always meaning since disk (λ m image. HasGroups shape groups (needed_by acknowledged m) image)

-- the groups that were acknowledged are there, and were acknowledged by now
pub record AreMade (groups : List (List ℕ)) (clock : ℕ) (acknowledged : List Acknowledged) : Type 0 where
  pub there : (m : ℕ) → needed_by acknowledged m ≤ length groups
  pub by_now : (m : ℕ) → clock ≤ m → needed_by acknowledged m ≡ needed_by acknowledged clock
