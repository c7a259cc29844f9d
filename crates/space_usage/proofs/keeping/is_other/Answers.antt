use Rattle.std.proofs.Common.{ℕ, ◌<◌, ◌∙◌, ap, sym, subst}
use Rattle.seg_words.specs.Types.{MOST_EXTENT_BLOCKS}
use Rattle.std.proofs.Common.{not, eqb}
use Rattle.redo_model.specs.Model.{code_of, extents_of, index_of}
use Rattle.store_core.proofs.Lookups.{looked_ok, looked_err}
use Rattle.space_usage.proofs.Bitmaps.{code_told, placed_in}
use Rattle.space_usage.proofs.Drafting.{code_place, coded_in, first_at, nth_at}
use Rattle.space_usage.proofs.keeping.is_other.Goals as goal

pub returns-in-Ok-clause-looked : goal.returns-in-Ok-clause-looked
returns-in-Ok-clause-looked g c = looked_ok g.D.Disk.meaning c.args.store.now c.code_at.new.store c.in-Ok.code _ c.in-Ok.ensures.looked

pub returns-in-Ok-clause-says : goal.returns-in-Ok-clause-says
returns-in-Ok-clause-says g c = λ R o h e.
    let s = c.args.store.now in
    let b : ℕ = c.args.dba in
    let l = c.args.levels.now in
    let p = placed_in s.shape R o b h.holds.list.within h.holds.lawful h.table h.here in
    let code = c.in-Ok.ensures.says R o (index_of s.shape (extents_of R o) b) p.extent h.holds p.at (first_at s.shape R o b l p e) (coded_in s.shape R o b l c.nth_in.result p e c.nth_in.ensures) in
    ap (λ n. not (eqb n c.in-Ok.code)) c.class_code.ensures.code
    ∙ code_told s.shape R b c.in-Ok.code c.args.class h.here.formatted (code ∙ ap (code_of s.shape R) (code_place s.shape R o b l c.nth_in.result p e c.nth_in.ensures))

pub returns-in-Err-clause-looked : goal.returns-in-Err-clause-looked
returns-in-Err-clause-looked g c = looked_err g.D.Disk.meaning c.args.store.now c.code_at.new.store c.in-Err.fault c.in-Err.ensures.looked

pub returns-in-Err-clause-sound : goal.returns-in-Err-clause-sound
returns-in-Err-clause-sound g c = λ R o h e n.
    let s = c.args.store.now in
    let b : ℕ = c.args.dba in
    let l = c.args.levels.now in
    let p = placed_in s.shape R o b h.holds.list.within h.holds.lawful h.table h.here in
    c.in-Err.ensures.sound R o (index_of s.shape (extents_of R o) b) p.extent h.holds h.table p.at (first_at s.shape R o b l p e) (subst (λ k. k < MOST_EXTENT_BLOCKS) (sym (nth_at s.shape R o b l c.nth_in.result p e c.nth_in.ensures)) p.near) n
