-- What a lowering answers.
use Rattle.std.specs.Prelude.{ℕ, cond, List, []}
use Rattle.seg_words.specs.Types.{Shape}
use Rattle.redo_model.specs.Records.{Record, LowerRecord}
use Rattle.redo_model.specs.Model.{high_mark}
use Rattle.store_core.specs.declared.lowered.Lowered.{Lowered}
use Rattle.lower_laws.specs.Drafts.{releases, drafted_lower}

-- what this Lower releases
abbrev pub answer_of : LowerRecord → Lowered
answer_of l = record { released = l.released; number = l.lowering; high = l.high }

-- nothing
abbrev pub none_released : ℕ → Lowered
none_released high = record { released = []; number = 0; high = high }

-- the extents that are released, the number of their lowering and the high mark then; or none, 0 and the high mark as it is
abbrev pub lowered : Shape → List Record → ℕ → Lowered
lowered sh R o = cond (releases sh R o) (answer_of (drafted_lower sh R o)) (none_released (high_mark R o))
