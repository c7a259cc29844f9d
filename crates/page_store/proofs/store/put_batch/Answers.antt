use Rattle.disk_model.proofs.Lemmas.{on_ok}
use Rattle.page_store.proofs.Whole.{first_leaves, second_leaves, third_leaves, fourth_leaves, all_lead}
use Rattle.page_store.proofs.store.put_batch.Goals as goal

pub returns-in_err-write_copies-clause-any_moment : goal.returns-in_err-write_copies-clause-any_moment
returns-in_err-write_copies-clause-any_moment g c shape pages store places =
    let meaning = g.D.Disk.meaning in
    let d0 = c.args.disk.now in
    let batch = c.args.batch.now in
    let d1 = c.write_copies.new.disk in
    let l1 = c.write_copies.ensures.any_moment shape pages store places in
    first_leaves meaning shape pages batch d0 d1 l1

pub returns-in_err-open_area-clause-any_moment : goal.returns-in_err-open_area-clause-any_moment
returns-in_err-open_area-clause-any_moment g c shape pages store places =
    let meaning = g.D.Disk.meaning in
    let d0 = c.args.disk.now in
    let batch = c.args.batch.now in
    let d1 = c.write_copies.new.disk in
    let l1 = c.write_copies.ensures.any_moment shape pages store places in
    let s1 = c.in_ok-write_copies.ensures.done shape pages store places in
    let d2 = c.open_area.new.disk in
    let l2 = c.open_area.ensures.any_moment shape pages batch s1.settled s1.holds.is in
    second_leaves meaning shape pages batch d0 d1 l1 s1 d2 l2

pub returns-in_err-write_places-clause-any_moment : goal.returns-in_err-write_places-clause-any_moment
returns-in_err-write_places-clause-any_moment g c shape pages store places =
    let meaning = g.D.Disk.meaning in
    let d0 = c.args.disk.now in
    let batch = c.args.batch.now in
    let d1 = c.write_copies.new.disk in
    let l1 = c.write_copies.ensures.any_moment shape pages store places in
    let s1 = c.in_ok-write_copies.ensures.done shape pages store places in
    let d2 = c.open_area.new.disk in
    let l2 = c.open_area.ensures.any_moment shape pages batch s1.settled s1.holds.is in
    let s2 = c.in_ok-open_area.ensures.done shape pages batch s1.settled s1.holds.is in
    let d3 = c.write_places.new.disk in
    let l3 = c.write_places.ensures.any_moment shape pages s2.settled s2.holds.is in
    third_leaves meaning shape pages batch d0 d1 l1 s1 d2 l2 s2 d3 l3

pub returns-clause-any_moment : goal.returns-clause-any_moment
returns-clause-any_moment g c shape pages store places =
    let meaning = g.D.Disk.meaning in
    let d0 = c.args.disk.now in
    let batch = c.args.batch.now in
    let d1 = c.write_copies.new.disk in
    let l1 = c.write_copies.ensures.any_moment shape pages store places in
    let s1 = c.in_ok-write_copies.ensures.done shape pages store places in
    let d2 = c.open_area.new.disk in
    let l2 = c.open_area.ensures.any_moment shape pages batch s1.settled s1.holds.is in
    let s2 = c.in_ok-open_area.ensures.done shape pages batch s1.settled s1.holds.is in
    let d3 = c.write_places.new.disk in
    let l3 = c.write_places.ensures.any_moment shape pages s2.settled s2.holds.is in
    let s3 = c.in_ok-write_places.ensures.done shape pages s2.settled s2.holds.is in
    let d4 = c.close_area.new.disk in
    fourth_leaves meaning shape pages batch d0 d1 l1 s1 d2 l2 s2 d3 l3 s3 d4 (c.close_area.ensures.any_moment shape pages batch s3.settled s3.holds.is)

pub returns-clause-done : goal.returns-clause-done
returns-clause-done g c shape pages store places =
    let meaning = g.D.Disk.meaning in
    let d0 = c.args.disk.now in
    let batch = c.args.batch.now in
    let d1 = c.write_copies.new.disk in
    let l1 = c.write_copies.ensures.any_moment shape pages store places in
    let s1 = c.in_ok-write_copies.ensures.done shape pages store places in
    let d2 = c.open_area.new.disk in
    let l2 = c.open_area.ensures.any_moment shape pages batch s1.settled s1.holds.is in
    let s2 = c.in_ok-open_area.ensures.done shape pages batch s1.settled s1.holds.is in
    let d3 = c.write_places.new.disk in
    let l3 = c.write_places.ensures.any_moment shape pages s2.settled s2.holds.is in
    let s3 = c.in_ok-write_places.ensures.done shape pages s2.settled s2.holds.is in
    let d4 = c.close_area.new.disk in
    on_ok c.close_area.result (all_lead meaning shape pages batch d0 d1 l1 s1 d2 l2 s2 d3 l3 s3 d4) (c.close_area.ensures.done shape pages batch s3.settled s3.holds.is)
