use Rattle.std.proofs.Common.{◌≡◌, ◌∙◌, ◌+◌, ◌-◌, ◌++◌, List, ℕ, length, take, drop, replicate, ap, arith}
use Rattle.disk_model.proofs.Overwritten.{is_written, all_of}
use Rattle.disk_model.proofs.memory.overwrite.Goals as goal

pub returns-clause-ok : goal.returns-clause-ok
returns-clause-ok c =
    let old = c.args.file.now.items in
    let items = c.lengthen.new.file.items in
    let len = c.deref_mut.ensures.len in
    let is = c.deref_mut.ensures.value in
    let same : length c.replace_part.new.all ≡ length items = omega (arith, ap length is, c.replace_part.auto.all) in
    let whole = all_of c.lengthen.new.file.len c.replace_part.new.all items (omega (arith, len, c.replace_part.auto.all)) same in
    let at = c.args.offset in
    let bytes = c.args.bytes.now in
    let end : c.in-Some.end ≡ at + length bytes = omega (arith, c.in-Some.ensures) in
    let put = λ (l : List ℕ). take at l ++ bytes ++ drop (at + length bytes) l in
    let padded = λ (n : ℕ). put (old ++ replicate (n - length old) 0) in
    is_written old bytes at _ (whole ∙ c.replace_part.ensures ∙ ap put is ∙ ap put c.in_ok-lengthen.ensures.ok ∙ ap padded end)
