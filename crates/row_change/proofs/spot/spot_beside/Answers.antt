use Rattle.std.proofs.Common.{arith, sym, ap, ◌∙◌, ltb-true, ltb-false}
use Rattle.store_core.proofs.Lookups.{looked_same, looked_err}
use Rattle.row_change.specs.declared.ring.UndoState.{UndoState}
use Rattle.row_change.proofs.Found.{spot_ok, beside_next, beside_here}
use Rattle.row_change.proofs.Searches.{few_parts}
use Rattle.row_change.proofs.spot.spot_beside.Goals as goal

pub returns-then-is_over-clause-says : goal.returns-then-is_over-clause-says
returns-then-is_over-clause-says g c = λ R t k current used. spot_ok c.next_spot.result _ _ (beside_next c.args.store.now.shape R c.args.current c.args.need c.args.state used (sym c.is_over.ensures ∙ c.if-is_over.true)) (c.next_spot.ensures.says R t k current)

pub returns-then-is_over-clause-sound : goal.returns-then-is_over-clause-sound
returns-then-is_over-clause-sound g c = λ R o t k i current used. c.next_spot.ensures.sound R o t k i current

pub returns-then-is_past-clause-looked : goal.returns-then-is_past-clause-looked
returns-then-is_past-clause-looked g c = looked_err g.D.Disk.meaning c.args.store.now c.refuse.new.self c.refuse.result c.refuse.ensures.looked

pub returns-then-is_past-clause-sound : goal.returns-then-is_past-clause-sound
returns-then-is_past-clause-sound g c = λ R o t k i current used. absurd (
    let many = ltb-true 63 c.args.state.count (sym c.is_past.ensures ∙ c.if-is_past.true) in
    let few = few_parts c.args.store.now.shape R c.args.current t.lawful.allowed in
    let e = ap (λ (x : UndoState). x.count) used in
    omega (arith, many, few, e))

pub returns-clause-looked : goal.returns-clause-looked
returns-clause-looked g c = looked_same g.D.Disk.meaning c.args.store.now _ c.requires.unspent

pub returns-clause-says : goal.returns-clause-says
returns-clause-says g c = λ R t k current used. beside_here c.args.store.now.shape R c.args.current c.args.need c.args.state used (sym c.is_over.ensures ∙ c.if-is_over.false)

pub returns-clause-place : goal.returns-clause-place
returns-clause-place g c = ltb-false 63 c.args.state.count (sym c.is_past.ensures ∙ c.if-is_past.false)
