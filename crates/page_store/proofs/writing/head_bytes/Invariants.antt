use Rattle.std.proofs.Common.{◌∷◌, length, take, flat_map}
use Rattle.page_bytes.specs.Types.{IsFront}
use Rattle.page_store.specs.Types.{dba_bytes}
use Rattle.page_store.proofs.writing.head_bytes.Given as goal

abbrev pub invariant-loop-page : goal.invariant-loop-page
invariant-loop-page l = IsFront l.head (0 ∷ length l.batch ∷ flat_map dba_bytes (take l.page-index l.batch)) l.at
