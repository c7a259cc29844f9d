use Rattle.std.proofs.Common.{Ok, Err, sym, ◌∙◌, subst}
use Rattle.std.specs.Prelude.{IfOk}
use Rattle.seg_words.specs.Types.{Shape}
use Rattle.redo_model.specs.Model.{IsRowBlock}
use Rattle.change_laws.specs.Types.{insert_of}
use Rattle.store_core.proofs.Lookups.{looked_on, looked_err}
use Rattle.row_change.specs.Planning.{CanBeMade, PlanMeans}
use Rattle.row_change.proofs.Plans.{insert_can}
use Rattle.row_change.proofs.inserting.plan_insert.Goals as goal

pub returns-in-Err-clause-sound : goal.returns-in-Err-clause-sound
returns-in-Err-clause-sound g c = λ R t m i n. c.in-Err.ensures.sound R c.args.obj t i.table m n

pub returns-in-Err-insert_change-clause-looked : goal.returns-in-Err-insert_change-clause-looked
returns-in-Err-insert_change-clause-looked g c = looked_on g.D.Disk.meaning c.args.store.now c.begin_change.new.store c.insert_change.new.store c.in-Ok.opening (Err c.in-Err-insert_change.fault) c.in-Ok.ensures.looked (looked_err g.D.Disk.meaning c.begin_change.new.store c.insert_change.new.store c.in-Err-insert_change.fault c.in-Err-insert_change.ensures.looked)

pub returns-in-Err-insert_change-clause-sound : goal.returns-in-Err-insert_change-clause-sound
returns-in-Err-insert_change-clause-sound g c = λ R t m i n. c.in-Err-insert_change.ensures.sound R c.args.who c.args.own (c.in-Ok.ensures.looked.stays_true R t) (c.in-Ok.ensures.says R t m) i.table (subst (λ (s : Shape). IsRowBlock s R c.args.obj c.args.at) (sym c.in-Ok.ensures.looked.loan.shape) i.here)

pub returns-clause-looked : goal.returns-clause-looked
returns-clause-looked g c = looked_on g.D.Disk.meaning c.args.store.now c.insert_change.new.store c.plan.new.store c.in-Ok-insert_change.change c.plan.result (looked_on g.D.Disk.meaning c.args.store.now c.begin_change.new.store c.insert_change.new.store c.in-Ok.opening (Ok c.in-Ok-insert_change.change) c.in-Ok.ensures.looked c.in-Ok-insert_change.ensures.looked) c.plan.ensures.looked

pub returns-clause-says : goal.returns-clause-says
returns-clause-says g c = λ R t m i.
    let still = c.in-Ok.ensures.looked.stays_true R t in
    let acts = c.in-Ok.ensures.says R t m in
    let one = c.in-Ok.ensures.looked.loan.shape in
    let same = c.in-Ok-insert_change.ensures.looked.loan.shape ∙ one in
    let k = insert_of R c.args.obj c.args.at c.args.bytes.now in
    subst (λ (s : Shape). IfOk c.plan.result (PlanMeans s R c.args.who c.args.own k)) same
    (c.plan.ensures.says R c.args.who c.args.own k (c.in-Ok-insert_change.ensures.looked.stays_true R still) m acts
    (c.in-Ok-insert_change.ensures.says R c.args.who c.args.own still acts (subst (λ (s : Shape). IsRowBlock s R c.args.obj c.args.at) (sym one) i.here))
    (subst (λ (s : Shape). CanBeMade s R c.args.own k) (sym same) (insert_can c.args.store.now.shape R c.args.own c.args.obj c.args.at c.args.bytes.now t.lawful i)))

pub returns-clause-sound : goal.returns-clause-sound
returns-clause-sound g c = λ R t m i n. c.plan.ensures.sound R c.args.obj c.args.who c.args.own (c.in-Ok-insert_change.ensures.looked.stays_true R (c.in-Ok.ensures.looked.stays_true R t)) (c.in-Ok.ensures.says R t m) i.table
