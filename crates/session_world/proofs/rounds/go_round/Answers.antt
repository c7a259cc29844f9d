use Rattle.std.proofs.Common.{◌≡◌, ◌+◌, ◌||◌, ℕ, Bool, length, sym, ◌∙◌, ap, subst, arith}
use Rattle.session_world.specs.Order.{after_round}
use Rattle.session_world.specs.Rounds.{IsRound}
use Rattle.session_world.proofs.Circling.{GoesRound, round_more, round_on, round_stops, round_over}
use Rattle.session_world.proofs.rounds.go_round.Goals.{then-made, else-made}
use Rattle.session_world.proofs.rounds.go_round.Goals as goal

pub returns-in-Err-clause-goes : goal.returns-in-Err-clause-goes
returns-in-Err-clause-goes g c = λ R0 R called first before h.
    let l = c.loop-at in
    let M = g.D.Disk.meaning in
    let scripts = c.args.scripts.now in
    let on = round_on M scripts R0 R called l.at first l.store before (g.K.Sink.written l.sink) c.args.run.now l.run l.made (l.invariant.round R0 R called first before h) in
    round_stops M scripts R0 called l.at first c.take_turn.new.store before (g.K.Sink.written c.take_turn.new.sink) c.in-Err.fault c.loop-at-test.true (c.in-Err.ensures.turned R0 on.records (after_round l.at called) first before on.so_far)

pub loop-at-preserved : goal.loop-at-preserved
loop-at-preserved g c =
    let M = g.D.Disk.meaning in
    let w = g.K.Sink.written in
    let n = g.K.Sink.fault_count in
    let l = c.loop-at in
    let t = c.take_turn.new in
    let made : c.if-made.made ≡ (l.made || c.in-Ok.turned) = elim c.if-made.branch [
      | then-made b ↦ b.made-is ∙ b.if-made.true ∙ sym (ap (λ (z : Bool). z || c.in-Ok.turned) b.if-made.true)
      | else-made b ↦ b.made-is ∙ sym (ap (λ (z : Bool). z || c.in-Ok.turned) b.if-made.false)
    ] in
    subst (λ (z : Bool). GoesRound M c.args.scripts.now (l.at + 1) c.args.store.now t.store (w c.args.sink.now) (w t.sink) (n c.args.sink.now) (n t.sink) c.args.run.now t.run z) (sym made)
    (round_more M c.args.scripts.now l.at c.args.store.now l.store t.store (w c.args.sink.now) (w l.sink) (w t.sink) (n c.args.sink.now) (n l.sink) (n t.sink) c.args.run.now l.run t.run l.made c.in-Ok.turned (omega (arith, c.loop-at-test.true)) l.invariant c.in-Ok.ensures.served
    (λ R0 R called first before h. c.in-Ok.ensures.turned R0 R called first before h))

pub returns-clause-goes : goal.returns-clause-goes
returns-clause-goes g c = λ R0 R called first before h.
    let M = g.D.Disk.meaning in
    let l = c.loop-at in
    let sink = g.K.Sink.written l.sink in
    let all : l.at ≡ length c.args.scripts.now = omega (arith, l.auto.at-end, c.loop-at-test.false) in
    round_over M c.args.scripts.now R0 R called first l.store before sink c.args.run.now l.run l.made
    (subst (λ (k : ℕ). IsRound M c.args.scripts.now R0 R called k first l.store before sink c.args.run.now l.run l.made) all (l.invariant.round R0 R called first before h))
