-- How a cause is printed: by its name.
use Rattle.std.specs.Prelude.{ℕ, List, codes}
use Rattle.script_text.specs.declared.why.Why.{Why}
use Rattle.script_text.specs.declared.why.Why.TheVariants.{BadByte, SessionOrder, NotAStatement, BadName, BadNumber, RowEmpty, RowTooLong, DuplicateLabel, ScheduleSession}

abbrev pub why_text : Why → List ℕ
why_text BadByte = codes "BadByte"
why_text SessionOrder = codes "SessionOrder"
why_text NotAStatement = codes "NotAStatement"
why_text BadName = codes "BadName"
why_text BadNumber = codes "BadNumber"
why_text RowEmpty = codes "RowEmpty"
why_text RowTooLong = codes "RowTooLong"
why_text DuplicateLabel = codes "DuplicateLabel"
why_text ScheduleSession = codes "ScheduleSession"
