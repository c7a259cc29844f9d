use Rattle.std.proofs.Common.{suc, ap, subst, ◌∙◌, refl, arith}
use Rattle.redo_model.specs.Model.{Content, plain_row, at_place, next_slot}
use Rattle.change_laws.specs.Types.{fill}
use Rattle.store_core.proofs.Lookups.{looked_ok, looked_err, looked_memory, looked_same}
use Rattle.row_change.specs.Drafting.{FillIs}
use Rattle.row_change.proofs.Numbered.{fewer}
use Rattle.row_change.proofs.inserting.insert_change.Goals as goal

pub returns-in-None-clause-sound : goal.returns-in-None-clause-sound
returns-in-None-clause-sound g c = λ R who own t a i x. absurd (let l = (fewer R c.args.obj i t.list.few).rows in let e = a.table.last_row in let n = c.in-None.ensures.greatest in let q = c.last_row.ensures in omega (arith, l, e, n, q))

pub returns-in-Err-clause-looked : goal.returns-in-Err-clause-looked
returns-in-Err-clause-looked g c = looked_memory {A = Unit {0}} g.D.Disk.meaning c.args.store.now c.args.store.now tt (looked_same g.D.Disk.meaning c.args.store.now tt c.requires.unspent)

pub returns-in-Ok-fill_at-clause-looked : goal.returns-in-Ok-fill_at-clause-looked
returns-in-Ok-fill_at-clause-looked g c = looked_ok g.D.Disk.meaning c.args.store.now c.fill_at.new.store c.in-Ok-fill_at.fill _ c.in-Ok-fill_at.ensures.looked

pub returns-in-Ok-fill_at-clause-says : goal.returns-in-Ok-fill_at-clause-says
returns-in-Ok-fill_at-clause-says g c = λ R who own t a x.
    let row = c.in-Some.ensures.next ∙ ap (λ n. suc n) (c.last_row.ensures ∙ a.table.last_row) in
    record {
      kind = refl;
      obj = refl;
      row = row;
      fills = (
        subst (λ (y : Content). FillIs R own c.in-Ok-fill_at.fill (fill (at_place c.args.at (next_slot R c.args.at)) y)) (c.in-Ok.ensures.content ∙ ap (λ n. plain_row n c.args.bytes.now) row) (c.in-Ok-fill_at.ensures.says R c.args.obj who own t a x),
        tt,
      );
    }

pub returns-in-Err-fill_at-clause-sound : goal.returns-in-Err-fill_at-clause-sound
returns-in-Err-fill_at-clause-sound g c = λ R who own t a i x. c.in-Err-fill_at.ensures.sound R c.args.obj who own t a x c.requires.unspent

pub returns-in-None-clause-looked : goal.returns-in-None-clause-looked
returns-in-None-clause-looked g c = looked_err g.D.Disk.meaning c.args.store.now c.refuse.new.self c.refuse.result c.refuse.ensures.looked
