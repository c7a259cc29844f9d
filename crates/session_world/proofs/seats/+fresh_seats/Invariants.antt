use Rattle.session_world.proofs.seats.+fresh_seats.Given as goal

abbrev pub decreases-fresh_seats : goal.decreases-fresh_seats
decreases-fresh_seats l = l.count
