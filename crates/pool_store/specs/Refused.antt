-- A store that keeps a fault.
use Rattle.std.specs.Prelude.{Option}
use Rattle.pool_store.specs.Store.{Held}
use Rattle.pool_store.specs.declared.fault.StoreFault.{StoreFault}

-- the same with this fault
abbrev pub with_fault : {D : Type 0} → Held D → Option StoreFault → Held D
with_fault s fault = record { disk = s.disk; loan = s.loan; first = s.first; shape = s.shape; log = s.log; pages = s.pages; commits = s.commits; fault = fault }
