use Rattle.std.proofs.Common.{◌-◌, refl}
use Rattle.std.specs.Vec.{with_item}
use Rattle.session_world.specs.declared.events.Run.{Run}
use Rattle.session_world.specs.Seats.{seen_in}
use Rattle.session_world.proofs.Turning.{stands_at, seat_moves, moved}
use Rattle.session_world.proofs.events.step_seat.Goals as goal

pub returns-clause-moved : goal.returns-clause-moved
returns-clause-moved g c = λ scripts R0 R e session at.
    let M = g.D.Disk.meaning in
    let was = c.args.run.now in
    let seat = c.index_mut.result.now in
    let after = c.step_in.new.seat in
    let run : Run = record { seats = with_item was.seats (c.from.result - 1) after; scans = c.step_in.new.scans; labels = c.step_in.new.labels; history = c.step_in.new.history } in
    let moves = seat_moves c.args.who c.from.result was run seat after c.from.ensures c.requires.least c.requires.seated c.index_mut.ensures.value refl in
    moved M scripts R0 R c.args.who c.args.store.now c.step_in.new.store was run seat.session after.session c.args.shrinks.now seat.dues after.dues session at moves c.step_in.ensures.called.loan.shape c.step_in.result c.step_in.ensures.grows
    (c.step_in.ensures.stepped scripts R0 R (seen_in was.seats.items was.scans) e (stands_at M scripts R0 R c.args.who c.args.store.now was c.args.shrinks.now seat.session seat.dues session c.requires.told moves.before at))
