-- A run that holds what it was lent, after a call.
use Rattle.std.proofs.Common.{◌≡◌}
use Rattle.std.specs.Prelude.{Option, Some, None, Result, Ok, Err, OnOk}
use Rattle.session_world.specs.declared.fault.RunFault.{RunFault}
use Rattle.session_world.specs.Lent.{fault_in}

pub while_unspent : {A P : Type 0} (r : Result A RunFault) → OnOk r P → fault_in r ≡ None → P
while_unspent (Ok a) h e = h
while_unspent (Err f) h e = absurd (let z : ◌≡◌ {A = Option RunFault} (Some f) None = e in cc)
