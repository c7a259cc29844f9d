use Rattle.std.proofs.Common.{List, sym, ◌∙◌, ap}
use Rattle.shrink_laws.specs.declared.skip.Skip.{Skip}
use Rattle.shrink_laws.specs.Stops.{is_skipped}
use Rattle.shrink_move.proofs.Opening.{skipped_turned}
use Rattle.shrink_move.proofs.opened.is_skipped.Goals as goal

pub returns : goal.returns
returns c = c.is_among.ensures ∙ sym (skipped_turned c.as_slice.result.now c.args.at.now.dba c.args.at.now.slot) ∙ ap (λ (l : List Skip). is_skipped l c.args.at.now.dba c.args.at.now.slot) c.as_slice.ensures
