use Rattle.std.proofs.Common.{◌≡◌, ℕ, List, ◌+◌, arith, sym, ◌∙◌, ap, subst, Some, None, Err}
use Rattle.log_frame.specs.Types.{size_found, AnswersInMemory, IsReached, Passes, IsAdvance, GROUP_HEAD_SIZE}
use Rattle.disk_model.specs.Types.{Files}
use Rattle.log_frame.proofs.Pieces.{reach_stops, size_stops, size_is, shut_here, pass_on, still_covers, room}
use Rattle.log_frame.proofs.reader.GroupReader.advance.Goals as goal

pub returns-in-Err-clause-goes : goal.returns-in-Err-clause-goes
returns-in-Err-clause-goes g c told covers =
    let file = (g.D.Disk.meaning.files c.args.disk.now).log_bytes in
    reach_stops file c.args.self.now.next c.reach.new.self c.in-Err.fault (λ _. IsReached file GROUP_HEAD_SIZE c.reach.new.self) (c.in-Err.ensures.reached told covers)

pub returns-in-Ok-None-clause-goes : goal.returns-in-Ok-None-clause-goes
returns-in-Ok-None-clause-goes g c told covers =
    let file = (g.D.Disk.meaning.files c.args.disk.now).log_bytes in
    let reached = c.in-Ok.ensures.reached told covers in
    shut_here file c.args.self.now.next c.reach.new.self.next c.in-Ok-None.field-0 c.reach.ensures.next c.in-Ok-None.field-0-is (c.in-Ok-None.ensures.found file reached)

pub returns-in-Err-size_ahead-clause-goes : goal.returns-in-Err-size_ahead-clause-goes
returns-in-Err-size_ahead-clause-goes g c told covers =
    let file = (g.D.Disk.meaning.files c.args.disk.now).log_bytes in
    let reached = c.in-Ok.ensures.reached told covers in
    size_stops file c.args.self.now.next c.reach.new.self.next c.reach.new.self c.in-Err-size_ahead.fault c.reach.ensures.next (c.in-Err-size_ahead.ensures.found file reached)

pub returns-in-Err-reach-clause-goes : goal.returns-in-Err-reach-clause-goes
returns-in-Err-reach-clause-goes g c told covers =
    let meaning = g.D.Disk.meaning in
    let file = (meaning.files c.args.disk.now).log_bytes in
    let later = (meaning.files c.reach.new.disk).log_bytes in
    let look = c.reach.ensures.untouched in
    let reached = c.in-Ok.ensures.reached told covers in
    let still = still_covers file later c.reach.new.self (ap (λ (f : Files). f.log_bytes) (look.files told)) reached.covers in
    reach_stops file c.args.self.now.next c.reach-2.new.self c.in-Err-reach.fault (λ _. IsReached later (GROUP_HEAD_SIZE + c.in-Ok-Some.size) c.reach-2.new.self) (subst (λ (n : ℕ). AnswersInMemory (Err c.in-Err-reach.fault) (λ (_ : Unit {0}). IsReached later (GROUP_HEAD_SIZE + n) c.reach-2.new.self)) c.from.ensures (c.in-Err-reach.ensures.reached (look.told.1 told) still))

pub pass-requires : goal.pass-requires
pass-requires g c = omega (arith, c.reach-2.ensures.next, room c.reach.new.self.next c.in-Ok-Some.field-0 c.in-Ok-Some.size c.in-Ok-Some.field-0-is c.in-Ok-Some.ensures.within)

pub returns-clause-goes : goal.returns-clause-goes
returns-clause-goes g c told covers =
    let meaning = g.D.Disk.meaning in
    let file = (meaning.files c.args.disk.now).log_bytes in
    let later = (meaning.files c.reach.new.disk).log_bytes in
    let same : later ≡ file = ap (λ (f : Files). f.log_bytes) (c.reach.ensures.untouched.files told) in
    let reached = c.in-Ok.ensures.reached told covers in
    let still = still_covers file later c.reach.new.self same reached.covers in
    let again = subst (λ (n : ℕ). IsReached later (GROUP_HEAD_SIZE + n) c.reach-2.new.self) c.from.ensures (c.in-Ok-reach.ensures.reached (c.reach.ensures.untouched.told.1 told) still) in
    let gate = c.reach-2.ensures.next ∙ c.reach.ensures.next in
    let found = size_is file c.reach-2.new.self.next c.reach.new.self.next c.in-Ok-Some.field-0 (Some c.in-Ok-Some.size) (sym c.reach-2.ensures.next) c.in-Ok-Some.field-0-is (c.in-Ok-Some.ensures.found file reached) in
    pass_on file later c.args.self.now.next c.reach-2.new.self.next c.pass.new.self same gate (c.pass.ensures.passes later again (ap (λ (l : List ℕ). size_found l c.reach-2.new.self.next) same ∙ found))
