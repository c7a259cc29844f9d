use Rattle.std.proofs.Common.{◌≡◌, ◌++◌, ◌+◌, drop}
use Rattle.script_text.specs.Spelled.{session_lines}
use Rattle.script_text.proofs.printing.put_sessions.Given as goal

abbrev pub invariant-loop-session : goal.invariant-loop-session
invariant-loop-session l = record {
  text : l.out.items ++ session_lines l.number (drop l.session-index l.sessions) ≡ l.fn.out.items ++ session_lines 1 l.sessions;
  number : l.number ≡ l.session-index + 1;
}
