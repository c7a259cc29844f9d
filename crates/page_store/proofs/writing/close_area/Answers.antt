use Rattle.std.proofs.Common.{◌∷◌, []}
use Rattle.disk_model.specs.Types.{Torn, written, torn_written}
use Rattle.disk_model.specs.declared.disk.File.TheVariants.{Data}
use Rattle.disk_model.proofs.Lemmas.{on_ok, leaves_so, put_settles}
use Rattle.page_store.specs.Types.{AsLong, HasPages, after, IsShut, AREA_AT}
use Rattle.page_store.proofs.Stages.{gate_torn, closing, closed}
use Rattle.page_store.proofs.writing.close_area.Goals as goal

pub returns-clause-any_moment : goal.returns-clause-any_moment
returns-clause-any_moment g c shape pages batch settled placed =
    let meaning = g.D.Disk.meaning in
    let old = (meaning.files c.args.disk.now).data_bytes in
    leaves_so meaning Data c.args.disk.now c.set_gate.new.disk (AsLong old (HasPages shape (after batch pages))) (Torn AREA_AT 1 old) (c.set_gate.ensures.any_moment settled)
    (λ b torn. record { long = (gate_torn shape pages batch old b placed.copies torn).long; is = closing shape pages batch old b placed torn })

pub returns-clause-done : goal.returns-clause-done
returns-clause-done g c shape pages batch settled placed =
    let meaning = g.D.Disk.meaning in
    let old = (meaning.files c.args.disk.now).data_bytes in
    let new = written old AREA_AT (0 ∷ []) in
    let long = (gate_torn shape pages batch old new placed.copies (torn_written old (0 ∷ []) AREA_AT)).long in
    on_ok c.set_gate.result (λ put. put_settles meaning Data c.args.disk.now c.set_gate.new.disk new (AsLong old (IsShut shape (after batch pages))) put (record { long = long; is = closed shape pages batch old placed })) (c.set_gate.ensures.put settled)
