-- The types of this crate, for its specifications and proofs. Declares nothing. A statement and its form have variants of
-- the same names: those of forms are passed on, those of statements are imported under a name of their own.
pub use Rattle.script_text.specs.declared.statement.Statement.{Statement}
pub use Rattle.script_text.specs.declared.statement.Target.{Target}
pub use Rattle.script_text.specs.declared.statement.Target.TheVariants.{Label, Number}
pub use Rattle.script_text.specs.declared.statement.Turns.{Turns}
pub use Rattle.script_text.specs.declared.form.Form.{Form}
pub use Rattle.script_text.specs.declared.form.Form.TheVariants.{Session, Table, Movement, Insert, Update, Delete, Commit, Rollback, Scan, Shrink, Usage, Fix, Repair, Checkpoint, Schedule}
pub use Rattle.script_text.specs.declared.form.Forms.{Forms}
pub use Rattle.script_text.specs.declared.form.TheConstants.{ALL_FORMS}
pub use Rattle.script_text.specs.declared.limit.TheConstants.{MOST_ROW_NUMBER, MOST_TURNS, MOST_NUMBER}
pub use Rattle.script_text.specs.declared.why.Why.{Why}
pub use Rattle.script_text.specs.declared.why.Why.TheVariants.{BadByte, SessionOrder, NotAStatement, BadName, BadNumber, RowEmpty, RowTooLong, DuplicateLabel, ScheduleSession}
pub use Rattle.script_text.specs.declared.why.ScriptFault.{ScriptFault}
pub use Rattle.script_text.specs.declared.draft.Draft.{Draft}
