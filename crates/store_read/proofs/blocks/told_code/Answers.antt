use Rattle.std.proofs.Common.{◌≡◌, ℕ, ◌+◌, true, IfOk, sym, subst}
use Rattle.redo_model.specs.Model.{code_of, extent_data}
use Rattle.redo_laws.specs.Among.{is_in}
use Rattle.store_read.proofs.Truth.{first_says}
use Rattle.store_read.proofs.blocks.told_code.Goals as goal

pub returns-clause-says : goal.returns-clause-says
returns-clause-says g c = λ R o index e t at is m.
    let sh = c.args.store.now.shape in
    subst (λ (d : ℕ). IfOk c.code_of_block.result (λ x. x ≡ code_of sh R (d + c.args.nth))) (sym is)
    (c.code_of_block.ensures.says sh R index e (first_says sh R o index c.args.first e c.frame.result.now t.list.within t.lawful at is (c.frame.ensures R t.list))
    (subst (λ (d : ℕ). is_in (d + c.args.nth) (extent_data sh index e.number) ≡ true) is m))

pub returns-clause-right : goal.returns-clause-right
returns-clause-right g c = λ R o index e t at is l. c.code_of_block.ensures.right c.args.store.now.shape R index e (first_says c.args.store.now.shape R o index c.args.first e c.frame.result.now t.list.within t.lawful at is (c.frame.ensures R t.list)) l
