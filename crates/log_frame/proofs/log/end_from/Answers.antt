use Rattle.std.proofs.Common.{◌≡◌, ◌+◌, ◌<◌, ℕ, List, length, sym, ◌∙◌, ap, subst, arith, Some, Ok, Err}
use Rattle.disk_model.specs.Types.{Files}
use Rattle.disk_model.proofs.Lemmas.{untouched_then}
use Rattle.log_frame.specs.Types.{size_found, IsSizeFound, GROUP_HEAD_SIZE}
use Rattle.log_frame.proofs.Walk.{Passed, one_passed, ends, breaks_so}
use Rattle.log_frame.proofs.log.end_from.Goals as goal

pub groups-preserved : goal.groups-preserved
groups-preserved g c =
    let meaning = g.D.Disk.meaning in
    let kept = c.groups.invariant in
    let next = c.in-Ok-Some.ensures in
    record {
      later = omega (arith, kept.later, next.cause.later);
      untouched = untouched_then meaning c.args.disk.now c.groups.disk c.size_at.new.disk kept.untouched next.untouched;
      passed = λ told len.
          let bytes = (meaning.files c.args.disk.now).log_bytes in
          let same = ap (λ (f : Files). f.log_bytes) (kept.untouched.files told) in
          let found = next.found (kept.untouched.told.1 told) (len ∙ ap length (sym same)) in
          let here : size_found bytes c.groups.at ≡ Ok (Some c.in-Ok-Some.size) = subst (λ (b : List ℕ). size_found b c.groups.at ≡ Ok (Some c.in-Ok-Some.size)) same (found ∙ ap Ok c.in-Ok-Some.field-0-is) in
          let within : c.groups.at + GROUP_HEAD_SIZE + c.in-Ok-Some.size < length bytes = omega (arith, len, rw c.in-Ok-Some.field-0-is at c.in-Ok-Some.ensures.within) in
          subst (λ (n : ℕ). Passed bytes c.args.from (c.groups.at + GROUP_HEAD_SIZE + n)) (sym c.from.ensures) (one_passed bytes c.args.from c.groups.at c.in-Ok-Some.size within here (kept.passed told len));
    }

pub returns-in-Ok-None-clause-found : goal.returns-in-Ok-None-clause-found
returns-in-Ok-None-clause-found g c told len =
    let meaning = g.D.Disk.meaning in
    let kept = c.groups.invariant in
    let bytes = (meaning.files c.args.disk.now).log_bytes in
    let same = ap (λ (f : Files). f.log_bytes) (kept.untouched.files told) in
    let found = c.in-Ok-None.ensures.found (kept.untouched.told.1 told) (len ∙ ap length (sym same)) in
    ends bytes c.args.from c.groups.at (ap (λ (b : List ℕ). size_found b c.groups.at) (sym same) ∙ found ∙ ap Ok c.in-Ok-None.field-0-is) (kept.passed told len)

pub returns-in-Err-clause-found : goal.returns-in-Err-clause-found
returns-in-Err-clause-found g c told len =
    let meaning = g.D.Disk.meaning in
    let kept = c.groups.invariant in
    let bytes = (meaning.files c.args.disk.now).log_bytes in
    let same = ap (λ (f : Files). f.log_bytes) (kept.untouched.files told) in
    let found = c.in-Err.ensures.found (kept.untouched.told.1 told) (len ∙ ap length (sym same)) in
    breaks_so bytes c.args.from c.groups.at c.in-Err.fault (subst (λ (b : List ℕ). IsSizeFound (size_found b c.groups.at) (Err c.in-Err.fault)) same found) (kept.passed told len)
