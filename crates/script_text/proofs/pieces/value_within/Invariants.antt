use Rattle.std.proofs.Common.{◌≡◌, ◌≤◌, take}
use Rattle.script_text.specs.Pieces.{value_of}
use Rattle.script_text.proofs.pieces.value_within.Given as goal

abbrev pub invariant-loop-byte : goal.invariant-loop-byte
invariant-loop-byte l = record {
  value : l.value ≡ value_of (take l.byte-index l.digits);
  small : l.value ≤ l.most;
}
