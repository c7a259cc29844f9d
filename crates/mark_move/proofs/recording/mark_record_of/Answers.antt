use Rattle.std.proofs.Common.{◌≡◌, IfOk, sym, ◌∙◌, subst}
use Rattle.seg_words.specs.Types.{Shape}
use Rattle.mark_laws.specs.Drafts.{mark_record}
use Rattle.store_core.proofs.Lookups.{looked_on}
use Rattle.mark_move.proofs.Truth.{segment_at, next_at}
use Rattle.mark_move.proofs.recording.mark_record_of.Goals as goal

pub returns-in-Ok-clause-looked : goal.returns-in-Ok-clause-looked
returns-in-Ok-clause-looked g c = looked_on g.D.Disk.meaning c.args.store.now c.read_segment.new.store c.record_of.new.store c.in-Ok.segment c.record_of.result c.in-Ok.ensures.looked (c.record_of.ensures.looked (c.in-Ok.ensures.looked.cause.kept c.in-Ok.ensures.looked.cause.goes_on))

pub returns-in-Ok-clause-says : goal.returns-in-Ok-clause-says
returns-in-Ok-clause-says g c = λ R t i. subst (λ (z : Shape). IfOk c.record_of.result (λ r. r ≡ mark_record z R c.args.obj c.args.step)) c.shape-shape.ensures (c.record_of.ensures.says R c.args.obj (c.in-Ok.ensures.looked.stays_true R t) i (c.shape-shape.ensures ∙ sym c.in-Ok.ensures.looked.loan.shape) (segment_at c.shape-shape.result c.args.store.now.shape R c.args.obj c.in-Ok.segment c.shape-shape.ensures (c.in-Ok.ensures.says R t i)))

pub returns-in-Ok-clause-sound : goal.returns-in-Ok-clause-sound
returns-in-Ok-clause-sound g c = λ R t i m n. c.record_of.ensures.sound R c.args.obj (c.in-Ok.ensures.looked.stays_true R t) i (c.shape-shape.ensures ∙ sym c.in-Ok.ensures.looked.loan.shape) (segment_at c.shape-shape.result c.args.store.now.shape R c.args.obj c.in-Ok.segment c.shape-shape.ensures (c.in-Ok.ensures.says R t i)) (next_at c.shape-shape.result c.args.store.now.shape R c.args.obj c.args.step c.shape-shape.ensures m) (c.in-Ok.ensures.looked.cause.kept c.in-Ok.ensures.looked.cause.goes_on)
