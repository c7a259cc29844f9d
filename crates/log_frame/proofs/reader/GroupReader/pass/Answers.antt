use Rattle.std.proofs.Common.{refl, ap, sym, ◌∙◌, arith}
use Rattle.log_frame.specs.Types.{Reading}
use Rattle.log_frame.proofs.Pieces.{one_passed_on}
use Rattle.log_frame.proofs.reader.GroupReader.pass.Goals as goal

pub returns-clause-passes : goal.returns-clause-passes
returns-clause-passes c file reached found =
    let is = c.self.view_is in
    one_passed_on file c.args.self.now _ c.args.size reached found (ap (λ (r : Reading). r.len) is) (ap (λ (r : Reading). r.start) is) (ap (λ (r : Reading). r.read) is) (omega (arith, ap (λ (r : Reading). r.next) is, c.from.ensures)) refl
