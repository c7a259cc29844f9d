-- Which test of its beginning refuses a statement, by what is told of the store.
use Rattle.std.specs.Prelude.{ℕ, Bool, cond, nat_le, is_some, Option, Some, None, Result, Ok, Err}
use Rattle.seg_words.specs.Types.{MOST_TABLES}
use Rattle.history_text.specs.declared.refusal.Refusal.{Refusal}
use Rattle.history_text.specs.declared.refusal.Refusal.TheVariants as why
use Rattle.session_core.specs.declared.naming.Named.{Named}

-- of new work that is refused by a full log alone
abbrev pub tested_full : Bool → Result (Unit {0}) Refusal
tested_full full = cond full (Err why.LogFull) (Ok tt)

abbrev pub tested_table : Named → Bool → Bool → Result (Unit {0}) Refusal
tested_table n within full = cond (is_some n.obj) (Err why.TableExists) (cond (nat_le MOST_TABLES n.tables) (Err why.TooManyTables) (cond within (Err why.TransactionOpen) (tested_full full)))

-- another session shrinks the table
abbrev pub tested_busy : Option ℕ → Bool → Result (Unit {0}) Refusal
tested_busy (Some v) full = Err (why.ShrinkBusy v)
tested_busy None full = tested_full full

abbrev pub tested_movement : Bool → Option ℕ → Bool → Result (Unit {0}) Refusal
tested_movement within busy full = cond within (Err why.TransactionOpen) (tested_busy busy full)
