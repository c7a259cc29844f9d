use Rattle.std.proofs.Common.{◌≡◌, ◌++◌, List, ℕ, OnOk, subst}
use Rattle.script_gen.proofs.Texts.{making_text}
use Rattle.script_gen.proofs.generating.put_making.Goals as goal

pub returns : goal.returns
returns c = subst (λ (line : List ℕ). OnOk c.put.result (c.put.new.out.items ≡ c.args.out.now.items ++ line)) making_text c.put.ensures.ok
