use Rattle.std.proofs.Common.{◌∙◌, sym, ap}
use Rattle.seg_words.specs.Types.{Shape}
use Rattle.page_set.specs.Folded.{page_of}
use Rattle.scan_table.proofs.slots.told_shown.Goals as goal

pub returns : goal.returns
returns g c = λ R o t h. c.shown_in.ensures c.args.store.now.shape R o c.args.dba h (c.frame.ensures R t.list ∙ ap (λ (z : Shape). page_of z R c.args.dba) (sym h.shape_is))
