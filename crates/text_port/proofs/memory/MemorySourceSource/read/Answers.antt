use Rattle.std.proofs.Common.{arith, drop, ap, sym, ◌∙◌}
use Rattle.seg_words.proofs.Lemmas.{common_steps}
use Rattle.text_port.specs.Memory.{Supply}
use Rattle.text_port.proofs.Pieces.{piece_at, empty_at}
use Rattle.text_port.proofs.memory.MemorySourceSource.read.Goals as goal

pub returns-clause-bytes : goal.returns-clause-bytes
returns-clause-bytes c =
    let s = c.self.inside in
    let n = c.min-count.result in
    (sym (ap (λ (v : Supply). v.left) c.self.view_is) ∙ piece_at s.bytes.items c.copy_from_slice.new.self (drop n c.args.buf.now) s.at n (grind (arith, common_steps)) (grind (arith, common_steps)), λ z r. empty_at s.bytes.items s.at n z (grind (arith, common_steps)))
