use Rattle.std.proofs.Common.{◌∙◌, refl, subst, inl, List, ℕ}
use Rattle.script_text.specs.declared.statement.Statement.TheVariants as asks
use Rattle.script_text.specs.Spelled.{printed}
use Rattle.assm.specs.Top.{RunTells}
use Rattle.assm.specs.Words.{script_with}
use Rattle.assm.proofs.Asked.{never_bad, usage_is_short, usage_says, usage_text}
use Rattle.assm.proofs.asking.run_usage.Goals as goal

pub returns-in-Ok-clause-tells : goal.returns-in-Ok-clause-tells
returns-in-Ok-clause-tells g c =
    subst (λ (text : List ℕ). RunTells g.D.Disk.meaning c.args.disk.now c.run_text.new.disk (g.K.Sink.written c.args.sink.now) (g.K.Sink.written c.run_text.new.sink) c.run_text.result text) (c.deref.ensures.value ∙ (c.in-Ok.ensures ∙ usage_text c.args.table.now)) c.run_text.ensures.tells

pub returns-in-Ok-clause-no_bad_script : goal.returns-in-Ok-clause-no_bad_script
returns-in-Ok-clause-no_bad_script g c = λ line why.
    never_bad g.D.Disk.meaning c.args.disk.now c.run_text.new.disk (g.K.Sink.written c.args.sink.now) (g.K.Sink.written c.run_text.new.sink) (printed (script_with (asks.Usage c.args.table.now))) (script_with (asks.Usage c.args.table.now)) c.run_text.result line why (usage_says c.args.table.now c.requires)
    (subst (λ (text : List ℕ). RunTells g.D.Disk.meaning c.args.disk.now c.run_text.new.disk (g.K.Sink.written c.args.sink.now) (g.K.Sink.written c.run_text.new.sink) c.run_text.result text) (c.deref.ensures.value ∙ (c.in-Ok.ensures ∙ usage_text c.args.table.now)) c.run_text.ensures.tells)

pub run_text-requires : goal.run_text-requires
run_text-requires g c = usage_is_short _ c.args.table.now (c.deref.ensures.value ∙ c.in-Ok.ensures) c.requires

pub returns-in-Err-clause-tells : goal.returns-in-Err-clause-tells
returns-in-Err-clause-tells g c = inl (record { printed = refl; same = refl })
