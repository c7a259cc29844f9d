use Rattle.std.proofs.Common.{◌∙◌, ap}
use Rattle.scan_table.specs.Places.{place}
use Rattle.scan_table.proofs.Keeping.{after_taken, steps_taken, taken_is}
use Rattle.scan_table.proofs.scans.Scans.read_next.Goals as goal

pub returns-clause-settled : goal.returns-clause-settled
returns-clause-settled g c = λ s p. after_taken s c.unwrap-scan.result c.advance-answer.new.self _ c.advance-answer.result (taken_is c.args.self.now c.args.who c.take_at.result s c.unwrap-scan.result (c.take_at.ensures.scan ∙ ap (place c.args.who) c.self.view_is) c.unwrap-scan.ensures p) c.advance-answer.ensures.settled c.put_back.ensures.own

pub returns-clause-steps : goal.returns-clause-steps
returns-clause-steps g c = λ B R s t p h. steps_taken c.args.store.now.shape B R s c.unwrap-scan.result c.advance-answer.new.self _ c.advance-answer.result (taken_is c.args.self.now c.args.who c.take_at.result s c.unwrap-scan.result (c.take_at.ensures.scan ∙ ap (place c.args.who) c.self.view_is) c.unwrap-scan.ensures p) (λ k. c.advance-answer.ensures.says B R t k) c.put_back.ensures.own h
