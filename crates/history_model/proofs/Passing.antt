-- An accepted statement passes over the causes that are tested as it begins, where none of them applies.
use Rattle.std.proofs.Common.{◌≡◌, ℕ, true, true≢false, sym}
use Rattle.seg_words.specs.Types.{Shape}
use Rattle.script_text.specs.declared.statement.Statement.{Statement}
use Rattle.history_text.specs.declared.refusal.Refusal.{Refusal}
use Rattle.history_text.specs.declared.refusal.Refusal.TheVariants as why
use Rattle.history_model.specs.Spans.{Span}
use Rattle.history_model.specs.Order.{is_first_tested}
use Rattle.history_model.specs.Causes.{Cause}
use Rattle.history_model.specs.Passing.{FirstPass}

pub passes_first : (sh : Shape) (x : Span) (st : Statement) (read : ℕ) → FirstPass sh x st → (y : Refusal) → is_first_tested y ≡ true → Cause sh x st read y → ⊥
passes_first sh x st read f why.NoTable e h = f.table h
passes_first sh x st read f why.TableExists e h = f.new_name h
passes_first sh x st read f why.TooManyTables e h = f.few_tables h
passes_first sh x st read f why.MovementOff e h = f.movement h
passes_first sh x st read f why.TransactionOpen e h = f.no_transaction h
passes_first sh x st read f (why.ShrinkBusy v) e h = f.unshrunk v h
passes_first sh x st read f why.LogFull e h = f.log h
passes_first sh x st read f (why.NotDataBlock b) e h = f.data_block b h
passes_first sh x st read f (why.BadValue v) e h = f.value v h
passes_first sh x st read f (why.Unbound l) e h = f.label l h
passes_first sh x st read f y e h = true≢false (sym e)
