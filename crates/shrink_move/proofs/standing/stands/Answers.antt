use Rattle.std.proofs.Common.{◌≡◌, Some}
use Rattle.page_set.specs.Folded.{page_of}
use Rattle.row_change.specs.Drafting.{place_or}
use Rattle.shrink_move.specs.declared.standing.Standing.{Standing}
use Rattle.shrink_move.specs.Asked.{standing_in}
use Rattle.shrink_move.specs.Drafting.{standing_of}
use Rattle.shrink_move.proofs.Nexts.{answer_on}
use Rattle.shrink_move.proofs.Stood.{standing_has, standing_read, standing_told}
use Rattle.shrink_move.proofs.standing.stands.Goals as goal

pub returns-clause-says : goal.returns-clause-says
returns-clause-says g c = λ R o k h. answer_on c.ask.result (λ (x : Standing). standing_in c.args.ground.now.table c.args.dba c.args.slot (page_of c.args.store.now.shape R c.args.dba) ≡ Some x) (λ (x : Standing). x ≡ standing_of R c.args.dba (place_or R c.args.dba c.args.slot))
    (λ x e. standing_told g.D.Disk.meaning c.args.store.now R o c.args.dba c.args.slot c.args.ground.now x k h e) (c.ask.ensures.says R k.holds)

pub returns-clause-sound : goal.returns-clause-sound
returns-clause-sound g c = λ R o k h u. c.ask.ensures.sound R (standing_of R c.args.dba (place_or R c.args.dba c.args.slot)) k.holds u (standing_has g.D.Disk.meaning c.args.store.now R o c.args.dba c.args.ground.now k h) (standing_read g.D.Disk.meaning c.args.store.now R o c.args.dba c.args.slot c.args.ground.now k h)
