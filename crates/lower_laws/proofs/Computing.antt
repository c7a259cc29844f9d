-- What the definitions compute on a small run.
use Rattle.std.proofs.Common.{refl}
use Rattle.lower_laws.specs.Worked.{LoweringRight}

pub lowering_right : LoweringRight
lowering_right = record { kept = refl; some = refl; lower = refl; none = refl; again = refl }
