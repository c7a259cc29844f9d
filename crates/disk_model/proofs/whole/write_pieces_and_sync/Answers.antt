use Rattle.std.proofs.Common.{◌≡◌, ◌+◌, ◌++◌, length, arith, length-append}
use Rattle.disk_model.proofs.WriteAndSync.{first_write, next_write, next_made, after_sync, is_put, all_torn}
use Rattle.disk_model.proofs.whole.write_pieces_and_sync.Goals as goal

pub returns-in_err-write_at-clause-any_moment : goal.returns-in_err-write_at-clause-any_moment
returns-in_err-write_at-clause-any_moment g c settled =
    let n = length c.args.front.now in
    let total = n + length c.args.body.now + length c.args.back.now in
    (first_write g.D.Disk.meaning c.args.disk.now c.args.file c.args.offset total c.write_at.new.self n (omega arith) settled c.write_at.ensures.time c.write_at.ensures.crash).leaves

pub returns-in_err-write_at-2-clause-any_moment : goal.returns-in_err-write_at-2-clause-any_moment
returns-in_err-write_at-2-clause-any_moment g c settled =
    let meaning = g.D.Disk.meaning in
    let n = length c.args.front.now in
    let m = length c.args.body.now in
    let total = n + m + length c.args.back.now in
    let d0 = c.args.disk.now in
    let so = first_write meaning d0 c.args.file c.args.offset total c.write_at.new.self n (omega arith) settled c.write_at.ensures.time c.write_at.ensures.crash in
    (next_write meaning d0 c.args.file c.args.offset total c.write_at.new.self c.write_at-2.new.self n m c.saturating_add-body_at.result (omega arith)
    (omega (arith, c.saturating_add-body_at.ensures, c.in_ok-write_at.ensures.can.fits)) so c.write_at-2.ensures.time c.write_at-2.ensures.crash).leaves

pub returns-in_err-write_at-3-clause-any_moment : goal.returns-in_err-write_at-3-clause-any_moment
returns-in_err-write_at-3-clause-any_moment g c settled =
    let meaning = g.D.Disk.meaning in
    let n = length c.args.front.now in
    let m = length c.args.body.now in
    let total = n + m + length c.args.back.now in
    let d0 = c.args.disk.now in
    let file = c.args.file in
    let at = c.args.offset in
    let so = first_write meaning d0 file at total c.write_at.new.self n (omega arith) settled c.write_at.ensures.time c.write_at.ensures.crash in
    let second : c.saturating_add-body_at.result ≡ at + n = omega (arith, c.saturating_add-body_at.ensures, c.in_ok-write_at.ensures.can.fits) in
    let so2 = next_write meaning d0 file at total c.write_at.new.self c.write_at-2.new.self n m c.saturating_add-body_at.result (omega arith) second so c.write_at-2.ensures.time c.write_at-2.ensures.crash in
    let third : c.saturating_add-back_at.result ≡ at + (n + m) = omega (arith, second, c.saturating_add-back_at.ensures, c.in_ok-write_at-2.ensures.can.fits) in
    (next_write meaning d0 file at total c.write_at-2.new.self c.write_at-3.new.self (n + m) (length c.args.back.now) c.saturating_add-back_at.result (omega arith) third so2 c.write_at-3.ensures.time c.write_at-3.ensures.crash).leaves

pub returns-clause-any_moment : goal.returns-clause-any_moment
returns-clause-any_moment g c settled =
    let meaning = g.D.Disk.meaning in
    let front = c.args.front.now in
    let body = c.args.body.now in
    let back = c.args.back.now in
    let n = length front in
    let m = length body in
    let total = n + m + length back in
    let d0 = c.args.disk.now in
    let file = c.args.file in
    let at = c.args.offset in
    let d1 = c.write_at.new.self in
    let d2 = c.write_at-2.new.self in
    let d3 = c.write_at-3.new.self in
    let so = first_write meaning d0 file at total d1 n (omega arith) settled c.write_at.ensures.time c.write_at.ensures.crash in
    let second : c.saturating_add-body_at.result ≡ at + n = omega (arith, c.saturating_add-body_at.ensures, c.in_ok-write_at.ensures.can.fits) in
    let so2 = next_write meaning d0 file at total d1 d2 n m c.saturating_add-body_at.result (omega arith) second so c.write_at-2.ensures.time c.write_at-2.ensures.crash in
    let third : c.saturating_add-back_at.result ≡ at + (n + m) = omega (arith, second, c.saturating_add-back_at.ensures, c.in_ok-write_at-2.ensures.can.fits) in
    let so3 = next_write meaning d0 file at total d2 d3 (n + m) (length back) c.saturating_add-back_at.result (omega arith) third so2 c.write_at-3.ensures.time c.write_at-3.ensures.crash in
    let told1 = c.write_at.ensures.told.1 settled.told in
    let told2 = c.write_at-2.ensures.told.1 told1 in
    let told3 = c.write_at-3.ensures.told.1 told2 in
    let made2 = next_made meaning d0 file at total d1 d2 front body c.saturating_add-body_at.result second (c.in_ok-write_at.ensures.written settled.told) (c.in_ok-write_at-2.ensures.written told1) in
    let made3 = next_made meaning d0 file at total d2 d3 (front ++ body) back c.saturating_add-back_at.result (omega (arith, third, length-append front body)) made2 (c.in_ok-write_at-3.ensures.written told2) in
    (after_sync meaning d0 file at total d3 c.sync.new.self (front ++ body ++ back) c.sync.result so3 made3 (c.sync.ensures.durable told3) (all_torn meaning d0 file at front body back d3 made3) c.sync.ensures.time c.sync.ensures.crash).leaves

pub returns-clause-put : goal.returns-clause-put
returns-clause-put g c settled =
    let meaning = g.D.Disk.meaning in
    let front = c.args.front.now in
    let body = c.args.body.now in
    let back = c.args.back.now in
    let n = length front in
    let m = length body in
    let total = n + m + length back in
    let d0 = c.args.disk.now in
    let file = c.args.file in
    let at = c.args.offset in
    let d1 = c.write_at.new.self in
    let d2 = c.write_at-2.new.self in
    let d3 = c.write_at-3.new.self in
    let so = first_write meaning d0 file at total d1 n (omega arith) settled c.write_at.ensures.time c.write_at.ensures.crash in
    let second : c.saturating_add-body_at.result ≡ at + n = omega (arith, c.saturating_add-body_at.ensures, c.in_ok-write_at.ensures.can.fits) in
    let so2 = next_write meaning d0 file at total d1 d2 n m c.saturating_add-body_at.result (omega arith) second so c.write_at-2.ensures.time c.write_at-2.ensures.crash in
    let third : c.saturating_add-back_at.result ≡ at + (n + m) = omega (arith, second, c.saturating_add-back_at.ensures, c.in_ok-write_at-2.ensures.can.fits) in
    let so3 = next_write meaning d0 file at total d2 d3 (n + m) (length back) c.saturating_add-back_at.result (omega arith) third so2 c.write_at-3.ensures.time c.write_at-3.ensures.crash in
    let told1 = c.write_at.ensures.told.1 settled.told in
    let told2 = c.write_at-2.ensures.told.1 told1 in
    let told3 = c.write_at-3.ensures.told.1 told2 in
    let made2 = next_made meaning d0 file at total d1 d2 front body c.saturating_add-body_at.result second (c.in_ok-write_at.ensures.written settled.told) (c.in_ok-write_at-2.ensures.written told1) in
    let made3 = next_made meaning d0 file at total d2 d3 (front ++ body) back c.saturating_add-back_at.result (omega (arith, third, length-append front body)) made2 (c.in_ok-write_at-3.ensures.written told2) in
    is_put meaning d0 file at total d3 c.sync.new.self (front ++ body ++ back) c.sync.result so3 made3 (c.sync.ensures.durable told3) (c.sync.ensures.told.1 told3) (c.sync.ensures.same told3)
