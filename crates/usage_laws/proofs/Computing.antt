-- What the definitions compute on small runs.
use Rattle.std.proofs.Common.{refl}
use Rattle.usage_laws.specs.Worked.{SettledRight}

pub settled_right : SettledRight
settled_right = record { short = refl; long = refl }
