use Rattle.std.proofs.Common.{◌≡◌, ◌++◌, ◌∷◌, [], List, ℕ, take, drop, ap, ◌∙◌, sym, arith}
use Rattle.log_frame.specs.Types.{window}
use Rattle.log_frame.proofs.Pieces.{front_copied}
use Rattle.log_frame.proofs.reader.GroupReader.front.Goals as goal

pub returns : goal.returns
returns c file reached = front_copied file c.args.self.now c.ahead-ahead.result.now c.copy_from_slice.new.self c.min-count.result reached c.ahead-ahead.ensures c.min-count.ensures c.copy_from_slice.ensures.after
