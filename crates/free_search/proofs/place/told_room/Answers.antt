use Rattle.std.proofs.Common.{◌≡◌, Bool, IfOk, ◌∙◌, subst}
use Rattle.free_search.proofs.Known.{fixed, rows_at, page_rows, takes_told}
use Rattle.free_search.proofs.place.told_room.Goals as goal

pub returns-clause-says : goal.returns-clause-says
returns-clause-says g c = λ R t k x.
    let l = c.args.look.now in
    let f = fixed g.D.Disk.meaning c.args.store.now R l t k in
    let h = rows_at R l c.args.dba f x in
    subst (λ (v : Bool). IfOk c.room_in.result (λ y. y ≡ v)) (takes_told R l c.args.dba h.rows f h.holds.block)
    (c.room_in.ensures.says h.rows (page_rows c.args.store.now.shape R l c.args.dba c.frame.result.now k (c.frame.ensures R t.list) ∙ h.page))

pub returns-clause-right : goal.returns-clause-right
returns-clause-right g c = λ R t k x.
    let l = c.args.look.now in
    let h = rows_at R l c.args.dba (fixed g.D.Disk.meaning c.args.store.now R l t k) x in
    c.room_in.ensures.right h.rows (page_rows c.args.store.now.shape R l c.args.dba c.frame.result.now k (c.frame.ensures R t.list) ∙ h.page)
