-- When a scan that has begun is refused: by the mark that it has, or by the block that it reads next. It keeps how many blocks of
-- its list it had read. Oracle: errors ORA-01555 and ORA-08103.
use Rattle.std.specs.Prelude.{◌≡◌, ℕ, List, Some, None, slice_get}
use Rattle.seg_words.specs.Types.{Shape, UndoAddr}
use Rattle.session_laws.specs.Sessions.{txn_or_zero}
use Rattle.version_laws.specs.Ends.{IsTooOld, IsTooOldEntry}
use Rattle.script_text.specs.declared.statement.Statement.TheVariants as asked
use Rattle.history_text.specs.declared.outcome.Outcome.TheVariants as told
use Rattle.history_text.specs.declared.refusal.Refusal.{Refusal}
use Rattle.history_text.specs.declared.refusal.Refusal.TheVariants as why
use Rattle.history_model.specs.declared.history.Kept.TheVariants as kept
use Rattle.history_model.specs.Spans.{Span}
use Rattle.history_model.specs.Released.{Gone}
use Rattle.history_model.specs.Passing.{FirstPass}
use Rattle.history_model.specs.Means.{RefusalMeans, PassesOver}
use Rattle.history_laws.specs.Working.{OpenScan, ScanStands}

-- the refusal means its row and passes over what doesn't apply
pub record IsScanRefused (sh : Shape) (x : Span) (name : List ℕ) (refusal : Refusal) (read : ℕ) : Type 0 where
  pub means : RefusalMeans sh x (asked.Scan name) refusal (kept.Read read)
  pub passes : PassesOver sh x (Some (asked.Scan name)) (told.Refused refusal) (kept.Read read)

-- a marked scan
abbrev pub MarkedAreRefused : Type 0
MarkedAreRefused = (sh : Shape) (x : Span) (name : List ℕ) (s : OpenScan) (g : Gone) → FirstPass sh x (asked.Scan name) → s.mark ≡ Some g → ScanStands sh x name s → IsScanRefused sh x name (why.ObjectGone g.extent g.lowering) s.read

-- one that isn't, where the next block needs a part of undo that was reused
abbrev pub LostAreRefused : Type 0
LostAreRefused =
    (sh : Shape) (x : Span) (name : List ℕ) (s : OpenScan) (b : ℕ) (a : UndoAddr) → FirstPass sh x (asked.Scan name) → s.mark ≡ None → slice_get s.blocks s.read ≡ Some b → IsTooOld x.ended b s.at (txn_or_zero s.own) a → ScanStands sh x name s
    → IsScanRefused sh x name (why.TooOld a) s.read

-- or reaches an image of a transaction that is forgotten
abbrev pub UnknownAreRefused : Type 0
UnknownAreRefused =
    (sh : Shape) (x : Span) (name : List ℕ) (s : OpenScan) (b u : ℕ) → FirstPass sh x (asked.Scan name) → s.mark ≡ None → slice_get s.blocks s.read ≡ Some b → IsTooOldEntry x.ended b s.at (txn_or_zero s.own) u → ScanStands sh x name s
    → IsScanRefused sh x name (why.TooOldEntry u) s.read
