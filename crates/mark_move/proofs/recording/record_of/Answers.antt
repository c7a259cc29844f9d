use Rattle.std.proofs.Common.{◌≡◌, IfOk, Some, sym, ◌∙◌, ap, subst}
use Rattle.redo_model.specs.Records.{Advance}
use Rattle.mark_laws.specs.declared.step.MarkStep.{MarkStep}
use Rattle.mark_laws.specs.Drafts.{mark_record}
use Rattle.store_core.proofs.Lookups.{looked_same}
use Rattle.mark_move.proofs.Truth.{index_within, extent_whole, law_at}
use Rattle.mark_move.proofs.recording.record_of.Goals as goal

pub returns-in-Format-clause-looked : goal.returns-in-Format-clause-looked
returns-in-Format-clause-looked g c = λ n. c.format_record.ensures.looked

pub returns-in-Format-clause-says : goal.returns-in-Format-clause-says
returns-in-Format-clause-says g c = λ R o t i e is. subst (λ (m : MarkStep). IfOk c.format_record.result (λ r. r ≡ mark_record c.args.shape.now R o m)) (sym c.in-Format.is) (c.format_record.ensures.says R o t i e is)

pub returns-in-Format-clause-sound : goal.returns-in-Format-clause-sound
returns-in-Format-clause-sound g c = λ R o t i e is m n. c.format_record.ensures.sound R o t i e is (index_within c.args.shape.now R o c.in-Format.dba c.requires.shape (law_at c.args.shape.now c.args.store.now.shape R e t.lawful) i (m ∙ ap (λ (x : MarkStep). Some x) c.in-Format.is)) n

pub returns-in-Advance-clause-looked : goal.returns-in-Advance-clause-looked
returns-in-Advance-clause-looked g c = λ n. looked_same g.D.Disk.meaning c.args.store.now _ n

pub returns-in-Advance-clause-says : goal.returns-in-Advance-clause-says
returns-in-Advance-clause-says g c = λ R o t i e is. ap (λ x. Advance x) (c.draft_advance.ensures R o is) ∙ ap (mark_record c.args.shape.now R o) (sym c.in-Advance.is)

pub returns-in-Extend-clause-looked : goal.returns-in-Extend-clause-looked
returns-in-Extend-clause-looked g c = λ n. c.extend_record.ensures.looked

pub returns-in-Extend-clause-says : goal.returns-in-Extend-clause-says
returns-in-Extend-clause-says g c = λ R o t i e is. subst (λ (m : MarkStep). IfOk c.extend_record.result (λ r. r ≡ mark_record c.args.shape.now R o m)) (sym c.in-Extend.is) (c.extend_record.ensures.says R o t i e is)

pub returns-in-Extend-clause-sound : goal.returns-in-Extend-clause-sound
returns-in-Extend-clause-sound g c = λ R o t i e is m n. c.extend_record.ensures.sound R o t i e is (extent_whole c.args.shape.now R o c.in-Extend.extent c.requires.shape (law_at c.args.shape.now c.args.store.now.shape R e t.lawful) i (m ∙ ap (λ (x : MarkStep). Some x) c.in-Extend.is)) n
