-- What is known over the store as it was before its table was read.
use Rattle.std.proofs.Common.{◌≡◌, ℕ, ◌<◌, List, length, sym, ◌∙◌, subst}
use Rattle.std.specs.Prelude.{Result}
use Rattle.seg_words.specs.Types.{Shape}
use Rattle.disk_model.specs.Crash.{Meaning}
use Rattle.redo_model.specs.Records.{Record}
use Rattle.redo_model.specs.Model.{data_blocks}
use Rattle.store_core.specs.Store.{Held}
use Rattle.store_core.specs.Causes.{HasLooked}
use Rattle.store_core.specs.declared.fault.StoreFault.{StoreFault}
use Rattle.shrink_move.specs.declared.ground.Ground.{Ground}
use Rattle.shrink_move.specs.Known.{Knows}

pub shape_before : {D A : Type 0} (meaning : Meaning D) (a b : Held D) (R : List Record) (o : ℕ) (g : Ground) (r : Result A StoreFault) → HasLooked meaning a b r → Knows meaning R o b g → g.shape ≡ a.shape
shape_before meaning a b R o g r l k = k.shape ∙ l.loan.shape

pub cursor_there : (sh k : Shape) (R : List Record) (o n : ℕ) → k ≡ sh → n < length (data_blocks sh R o) → n < length (data_blocks k R o)
cursor_there sh k R o n e l = subst (λ (z : Shape). n < length (data_blocks z R o)) (sym e) l
