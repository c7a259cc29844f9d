use Rattle.std.proofs.Common.{◌≡◌, ◌+◌, ◌<◌, ◌^◌, length}
use Rattle.std.specs.Str.Lines.{lines}
use Rattle.script_text.specs.Grammar.{read_lines, nothing_read}
use Rattle.script_text.proofs.parsing.read_lines.Given as goal

abbrev pub invariant-loop-rest : goal.invariant-loop-rest
invariant-loop-rest l = record {
  read : read_lines l.forms l.draft l.number (lines l.rest) ≡ read_lines l.forms nothing_read 0 (lines l.text);
  few : l.number + length (lines l.rest) < 2 ^ 32;
}

abbrev pub decreases-loop-rest : goal.decreases-loop-rest
decreases-loop-rest l = length l.rest
