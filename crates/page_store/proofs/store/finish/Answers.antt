use Rattle.disk_model.specs.Types.{Settles}
use Rattle.disk_model.specs.declared.disk.File.TheVariants.{Data}
use Rattle.page_store.specs.Types.{copies_of, AsLong, IsShut, IsPlaced}
use Rattle.page_store.proofs.Whole.{opened_now, placed_leaves, closed_leaves, closed_settles, fault_answers}
use Rattle.page_store.proofs.store.finish.Goals as goal

pub returns-in-Err-clause-any_moment : goal.returns-in-Err-clause-any_moment
returns-in-Err-clause-any_moment g c shape pages settled was =
    let meaning = g.D.Disk.meaning in
    let d0 = c.args.disk.now in
    let blocks = c.args.blocks.now in
    let now = opened_now meaning shape pages d0 blocks was in
    placed_leaves meaning shape pages d0 blocks was c.place_copies.new.disk (c.place_copies.ensures.any_moment shape pages (copies_of (meaning.files d0).data_bytes) settled now was.named)

pub returns-in-Err-clause-done : goal.returns-in-Err-clause-done
returns-in-Err-clause-done g c shape pages settled was =
    let meaning = g.D.Disk.meaning in
    let d0 = c.args.disk.now in
    let batch = copies_of (meaning.files d0).data_bytes in
    let done = c.in-Err.ensures.done shape pages batch settled (opened_now meaning shape pages d0 c.args.blocks.now was) was.named in
    fault_answers c.in-Err.fault (λ _. Settles meaning d0 c.place_copies.new.disk Data (AsLong (meaning.files d0).data_bytes (IsPlaced shape pages batch))) (λ _. Settles meaning d0 c.place_copies.new.disk Data (AsLong (meaning.files d0).data_bytes (IsShut shape pages))) done

pub returns-in-Err-close_area-clause-any_moment : goal.returns-in-Err-close_area-clause-any_moment
returns-in-Err-close_area-clause-any_moment g c shape pages settled was =
    let meaning = g.D.Disk.meaning in
    let d0 = c.args.disk.now in
    let blocks = c.args.blocks.now in
    let batch = copies_of (meaning.files d0).data_bytes in
    let now = opened_now meaning shape pages d0 blocks was in
    let placed = c.in-Ok.ensures.done shape pages batch settled now was.named in
    closed_leaves meaning shape pages d0 blocks was c.place_copies.new.disk (c.place_copies.ensures.any_moment shape pages batch settled now was.named) placed c.close_area.new.disk (c.close_area.ensures.any_moment shape pages batch placed.settled placed.holds.is)

pub returns-in-Ok-close_area-clause-any_moment : goal.returns-in-Ok-close_area-clause-any_moment
returns-in-Ok-close_area-clause-any_moment g c shape pages settled was =
    let meaning = g.D.Disk.meaning in
    let d0 = c.args.disk.now in
    let blocks = c.args.blocks.now in
    let batch = copies_of (meaning.files d0).data_bytes in
    let now = opened_now meaning shape pages d0 blocks was in
    let placed = c.in-Ok.ensures.done shape pages batch settled now was.named in
    closed_leaves meaning shape pages d0 blocks was c.place_copies.new.disk (c.place_copies.ensures.any_moment shape pages batch settled now was.named) placed c.close_area.new.disk (c.close_area.ensures.any_moment shape pages batch placed.settled placed.holds.is)

pub returns-in-Ok-close_area-clause-done : goal.returns-in-Ok-close_area-clause-done
returns-in-Ok-close_area-clause-done g c shape pages settled was =
    let meaning = g.D.Disk.meaning in
    let d0 = c.args.disk.now in
    let blocks = c.args.blocks.now in
    let batch = copies_of (meaning.files d0).data_bytes in
    let now = opened_now meaning shape pages d0 blocks was in
    let placed = c.in-Ok.ensures.done shape pages batch settled now was.named in
    closed_settles meaning shape pages d0 blocks was c.place_copies.new.disk (c.place_copies.ensures.any_moment shape pages batch settled now was.named) placed c.close_area.new.disk (c.in-Ok-close_area.ensures.done shape pages batch placed.settled placed.holds.is)
