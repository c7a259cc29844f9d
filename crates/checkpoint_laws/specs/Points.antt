-- Which checkpoints are those of a log: each stands between two of its groups.
use Rattle.std.specs.Prelude.{◌≡◌, ℕ, ◌+◌, ◌≤◌, List, [], ◌++◌, length}
use Rattle.seg_words.specs.Types.{FIRST_GATE}
use Rattle.log_frame.specs.Types.{frames}
use Rattle.redo_record.specs.declared.record.Record.{Record}
use Rattle.redo_model.specs.Lists.{prefix}
use Rattle.redo_model.specs.Ordinals.{commit_count}
use Rattle.redo_log.specs.Kept.{spelled, AreSpelled, Holds, with_group}
use Rattle.checkpoint_block.specs.declared.point.Checkpoint.{Checkpoint}
use Rattle.checkpoint_block.specs.Types.{first_point}

-- The checkpoint of the records Q, which the log's groups hold, the newest first: the groups before it hold the first of them,
-- which it counts with their commits, its gate stands behind these groups, and the groups behind it lead on to Q.
pub record IsPointOf (groups : List (List ℕ)) (Q : List Record) (point : Checkpoint) : Type 0 where
  pub before : List (List ℕ)
  pub behind : List (List ℕ)
  pub first : List Record
  pub split : groups ≡ before ++ behind
  pub older : Holds before [] first
  pub newer : Holds behind first Q
  pub count : point.length ≡ length first
  pub end_gate : point.end_gate ≡ FIRST_GATE + length (frames before)
  pub commits : point.commits ≡ commit_count first

-- the checkpoint behind all groups
abbrev pub point_at : List (List ℕ) → List Record → Checkpoint
point_at groups Q = record { length = length Q; end_gate = FIRST_GATE + length (frames groups); commits = commit_count Q }

abbrev pub NoneIsAPoint : Type 0
NoneIsAPoint = IsPointOf [] [] first_point

abbrev pub AllIsAPoint : Type 0
AllIsAPoint = (groups : List (List ℕ)) (Q : List Record) → Holds groups [] Q → IsPointOf groups Q (point_at groups Q)

abbrev pub PointsStay : Type 0
PointsStay = (groups more : List (List ℕ)) (Q R : List Record) (point : Checkpoint) → IsPointOf groups Q point → Holds more Q R → IsPointOf (groups ++ more) R point

-- the records that wait are a group, where there are any
abbrev pub PointsStayWithAGroup : Type 0
PointsStayWithAGroup = (groups : List (List ℕ)) (Q newer : List Record) (waiting : List ℕ) (point : Checkpoint) → IsPointOf groups Q point → waiting ≡ spelled newer → AreSpelled newer → IsPointOf (with_group groups waiting) (newer ++ Q) point

-- what a checkpoint of a log says of the list of its records
pub record IsBoundary (groups : List (List ℕ)) (Q : List Record) (point : Checkpoint) : Type 0 where
  pub holds : Holds groups [] Q
  pub within : point.length ≤ length Q
  pub commits : point.commits ≡ commit_count (prefix Q point.length)
  pub before : List (List ℕ)
  pub behind : List (List ℕ)
  pub split : groups ≡ before ++ behind
  pub older : Holds before [] (prefix Q point.length)
  pub newer : Holds behind (prefix Q point.length) Q
  pub end_gate : point.end_gate ≡ FIRST_GATE + length (frames before)

abbrev pub PointsAreBoundaries : Type 0
PointsAreBoundaries = (groups : List (List ℕ)) (Q : List Record) (point : Checkpoint) → IsPointOf groups Q point → IsBoundary groups Q point
