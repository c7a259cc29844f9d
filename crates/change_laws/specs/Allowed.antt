-- The records of a change are allowed.
use Rattle.std.specs.Prelude.{◌≡◌, ℕ, ◌≤◌, false, List, ◌∷◌, Some}
use Rattle.seg_words.specs.Types.{Shape, Rowid, MOST_SESSIONS}
use Rattle.redo_model.specs.Records.{Record, Begin, Reuse}
use Rattle.redo_model.specs.Model.{has_open, TakesEntry, IsLawful}
use Rattle.version_laws.specs.Types.{begin_of}
use Rattle.change_laws.specs.Drafts.{Change, change_size, record_of, insert_of, update_of, migrate_of, return_of, delete_of, Stand}
use Rattle.change_laws.specs.Ready.{IsReady, MayInsert, MayUpdate, MayReturn, MayMigrate, MayDelete}
use Rattle.change_laws.specs.Spots.{Spot, Here, Next, Full, IsFull, spot_for, undo_start}

-- the Begin of a session without an active transaction, with the entry and the control number that a Begin takes
abbrev pub BeginsAreLawful : Type 0
BeginsAreLawful =
    (sh : Shape) (R : List Record) (who entry control : ℕ) → IsLawful sh R → 1 ≤ who → who ≤ MOST_SESSIONS → has_open R who ≡ false → TakesEntry R entry control
    → IsLawful sh (Begin (begin_of R who entry control) ∷ R)

abbrev pub InsertsAreReady : Type 0
InsertsAreReady = (sh : Shape) (R : List Record) (t o b : ℕ) (bytes : List ℕ) → IsLawful sh R → MayInsert sh R (Some t) o b bytes → IsReady sh R t (insert_of R o b bytes)

abbrev pub UpdatesAreReady : Type 0
UpdatesAreReady = (sh : Shape) (R : List Record) (t o n : ℕ) (x : Stand) (bytes : List ℕ) → IsLawful sh R → MayUpdate R (Some t) o n x bytes → IsReady sh R t (update_of R o n x bytes)

abbrev pub MigratesAreReady : Type 0
MigratesAreReady = (sh : Shape) (R : List Record) (t o n : ℕ) (x : Stand) (b : ℕ) (bytes : List ℕ) → IsLawful sh R → MayMigrate sh R (Some t) o n x b bytes → IsReady sh R t (migrate_of R o n x b bytes)

abbrev pub ReturnsAreReady : Type 0
ReturnsAreReady = (sh : Shape) (R : List Record) (t o n : ℕ) (head body : Rowid) (bytes : List ℕ) → IsLawful sh R → MayReturn R (Some t) o n head body bytes → IsReady sh R t (return_of o n head body bytes)

abbrev pub DeletesAreReady : Type 0
DeletesAreReady = (sh : Shape) (R : List Record) (t o n : ℕ) (x : Stand) → IsLawful sh R → MayDelete R (Some t) o n x → IsReady sh R t (delete_of o n x)

-- what follows where the undo of a change goes: the list with its record, and with a Reuse before it, is lawful; or undo is
-- full
abbrev pub LawfulAt : Shape → List Record → ℕ → Change → Spot → Type 0
LawfulAt sh R t c (Here a) = IsLawful sh (record_of R t a c ∷ R)
LawfulAt sh R t c (Next q) = IsLawful sh (record_of (Reuse q ∷ R) t (undo_start q) c ∷ Reuse q ∷ R)
LawfulAt sh R t c (Full hs) = IsFull sh R (change_size R c) hs

abbrev pub ChangesAreLawful : Type 0
ChangesAreLawful = (sh : Shape) (R : List Record) (t : ℕ) (c : Change) → IsLawful sh R → IsReady sh R t c → LawfulAt sh R t c (spot_for sh R (change_size R c))

-- where undo is full for so many bytes, it is full for every record that needs as many
abbrev pub FullIsTold : Type 0
FullIsTold = (sh : Shape) (R : List Record) (need : ℕ) (hs : List (ℕ × ℕ)) → spot_for sh R need ≡ Full hs → IsFull sh R need hs
