use Rattle.std.proofs.Common.{◌≡◌, Some}
use Rattle.redo_model.specs.Model.{image}
use Rattle.page_set.specs.Folded.{page_of}
use Rattle.shrink_move.specs.Asked.{outline_in, outline_of}
use Rattle.shrink_move.proofs.Opening.{full_has, outline_read, outline_told}
use Rattle.shrink_move.proofs.Nexts.{answer_on}
use Rattle.shrink_move.proofs.outline.slot_outline.Goals as goal

pub returns-clause-says : goal.returns-clause-says
returns-clause-says g c = λ R t f. answer_on c.ask.result (λ x. outline_in c.args.at.now.slot (page_of c.args.store.now.shape R c.args.at.now.dba) ≡ Some x) (λ x. x ≡ outline_of (image R c.args.at.now.dba c.args.at.now.slot))
    (λ x e. outline_told c.args.store.now.shape R c.args.at.now.dba c.args.at.now.slot x t.list.within t.lawful f e) (c.ask.ensures.says R t)

pub returns-clause-sound : goal.returns-clause-sound
returns-clause-sound g c = λ R t f u. c.ask.ensures.sound R (outline_of (image R c.args.at.now.dba c.args.at.now.slot)) t u (full_has c.args.store.now.shape R c.args.at.now.dba c.args.at.now.slot t.lawful.allowed f) (outline_read c.args.store.now.shape R c.args.at.now.dba c.args.at.now.slot t.list.within t.lawful f)
